-- `ticked` meets its contract: the answer's number and place are those of the tick in place, and so is what is left in the file.
use mathlib.Core.Path.{ap, ◌∙◌}
use Rattle.fleet.specs.Answer.{number, place_of}
use Rattle.guineacrumb.proofs.ticked.Goals as goal

pub returns : goal.returns
returns c =
    let answer = c.tick_in_place-answer.ensures.answer in
    record { answer = c.number.ensures ∙ ap number answer; file = c.tick_in_place-answer.ensures.file; place = c.place.ensures ∙ ap place_of answer }
