use Rattle.std.proofs.Common.{true, false, subst, ap, ◌∙◌}
use Rattle.std.proofs.lemmas.Result.{IfOk-weaker}
use Rattle.access_tries.specs.Paths.{IsUnion}
use Rattle.access_tries.specs.Walks.{IsOf, addresses_in}
use Rattle.json_tries.specs.Places.{IsOfPlaces}
use Rattle.json_tries.proofs.PlaceTries.{of_places}
use Rattle.json_tries.proofs.places.trie_of_places.Goals as goal

pub returns : goal.returns
returns c =
    let places = c.args.places.now in
    let read = c.in_ok-read.read in
    let marked = c.in_ok-marked.marked in
    IfOk-weaker c.union.result (IsUnion read marked) (IsOfPlaces places)
    (λ u h. of_places places read marked u (subst (λ xs. IsOf xs false read) (ap addresses_in c.as_slice.ensures.value ∙ c.in_ok-addresses.ensures) c.in_ok-read.ensures) (subst (λ xs. IsOf xs true marked) (ap addresses_in c.as_slice-2.ensures.value ∙ c.in_ok-addresses-2.ensures) c.in_ok-marked.ensures) h)
    c.union.ensures
