-- What a search by halving finds among numbers that rise.
use Rattle.table.proofs.Places.{searched_place}
use Rattle.table.proofs.place.place_of.Goals as goal

pub returns-clause-placed : goal.returns-clause-placed
returns-clause-placed c =
    let a = c.args in
    rw c.ok.ensures.value (searched_place a.numbers.now a.count a.number c.binary_search.result c.requires.in_bounds c.requires.rising c.binary_search.ensures.position)
