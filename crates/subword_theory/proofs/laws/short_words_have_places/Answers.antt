use Rattle.subword_theory.proofs.Places.{word_at_place, place_within, place_one}
use Rattle.subword_theory.proofs.laws.short_words_have_places.Goals as goal

pub returns-clause-numbered : goal.returns-clause-numbered
returns-clause-numbered c k n p l =
    let (x, at) = word_at_place k n p l in (x, at.over, at.short, at.place)

pub returns-clause-within : goal.returns-clause-within
returns-clause-within c = place_within

pub returns-clause-one : goal.returns-clause-one
returns-clause-one c = place_one
