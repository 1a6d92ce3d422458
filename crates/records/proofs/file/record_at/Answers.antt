-- `record_at` makes each word by a call at its place, which reads the word there and leaves the closure as it was.
use Prim.Native.Nat.{◌*◌}
use lib.ListN.{drop}
use lib.Seq.{drop-drop}
use borrow.Author.Rules.{rules}
use Rattle.records.specs.File.{word_in, record_in}
use Rattle.records.proofs.Parts.{parts-made}
use Rattle.records.proofs.file.record_at.Goals as goal

pub returns : goal.returns
unfolding record_in
returns c =
    let file = c.args.file.now in
    let from = c.args.at in
    rw (parts-made 4 word_in _ _ (drop from file) (λ i word state called. rw (drop-drop (4 * i) from file) (search rules)) c.from_fn.result 19 0 c.from_fn.ensures.items)
