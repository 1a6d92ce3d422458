-- A file passes as whole exactly where its bytes are those of at most 64 records.
use mathlib.Core.Path.{◌≡◌}
use mathlib.Core.Bool.{◌&&◌}
use Prim.Native.Nat.{ℕ, ◌/◌, ◌%◌, ◌≤◌}
use lib.Dec.{leb, eqb}
use borrow.Author.Tests.{leb-true, eqb-true, eq-eqb, le-leb}
use Rattle.vectors.proofs.Truth.{both}
use Rattle.refusals.specs.declared.Refusal.TheVariants.{BadFile}
use Rattle.refusals.proofs.Verdicts.{test-passed}
use Rattle.refusals.specs.Verdict.{passed}
use Rattle.records.specs.Record.{most_agents}
use Rattle.records.specs.File.{record_bytes, whole_file}

pub whole-passed : (bytes : ℕ) → whole_file bytes ≡ passed → bytes / record_bytes ≤ most_agents
unfolding whole_file
whole-passed bytes e =
    let whole = eqb (bytes % record_bytes) 0 in
    let few = leb (bytes / record_bytes) most_agents in
    leb-true (bytes / record_bytes) most_agents (both whole few (test-passed (whole && few) (BadFile bytes) e)).1

pub whole_multiple : (bytes : ℕ) → whole_file bytes ≡ passed → bytes % record_bytes ≡ 0
unfolding whole_file
whole_multiple bytes e =
    let whole = eqb (bytes % record_bytes) 0 in
    let few = leb (bytes / record_bytes) most_agents in
    eqb-true (bytes % record_bytes) 0 (both whole few (test-passed (whole && few) (BadFile bytes) e)).0

pub whole-passes : (bytes : ℕ) → bytes % record_bytes ≡ 0 → bytes / record_bytes ≤ most_agents → whole_file bytes ≡ passed
unfolding whole_file
whole-passes bytes multiple few = rw (eq-eqb (bytes % record_bytes) 0 multiple, le-leb (bytes / record_bytes) most_agents few)
