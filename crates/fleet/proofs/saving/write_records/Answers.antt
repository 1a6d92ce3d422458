-- `write_records` writes one record after another: at each turn the buffer starts with the file of those passed.
use mathlib.Core.Path.{◌≡◌, sym, ap, ◌∙◌}
use mathlib.Core.List.{List, ◌++◌}
use Prim.Native.Nat.{ℕ, suc, ◌*◌, ◌≤◌}
use native.Mathlib.Numerals.{add-one}
use native.Mathlib.Omega.{arith}
use lib.ListN.{length, take, drop, length-append, length-drop}
use Rattle.records.specs.File.{file_of}
use Rattle.records.proofs.Encoding.{file-none, file-more}
use Rattle.fleet.proofs.saving.write_records.Goals as goal

pub loop-index-init : goal.loop-index-init
loop-index-init c = sym (ap (λ (bytes : List ℕ). bytes ++ c.args.buffer.now) file-none)

pub loop-index-preserved : goal.loop-index-preserved
loop-index-preserved c =
    let rs = c.args.records.now in
    let i = c.loop-index.index in
    let room : 76 * suc i ≤ length c.args.buffer.now = omega (arith, c.loop-index-test.true, c.requires) in
    let long : length (file_of (take i rs) ++ drop (76 * i) c.args.buffer.now) ≡ length c.args.buffer.now = ap length (sym c.loop-index.invariant) ∙ c.loop-index.auto.buffer in
    let passed-length : length (file_of (take i rs)) ≡ 76 * i = omega (arith, long, room, length-append (file_of (take i rs)) (drop (76 * i) c.args.buffer.now), length-drop (76 * i) c.args.buffer.now) in
    c.write_record.ensures ∙ rw (c.loop-index.invariant, add-one i) (file-more rs i _ c.args.buffer.now c.loop-index-test.true passed-length room)
