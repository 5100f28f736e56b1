use Rattle.std.proofs.Common.{sym, subst}
use Rattle.std.proofs.lemmas.Result.{IfOk-weaker}
use Rattle.std.specs.List.Sorted.{IsPermutation}
use Rattle.access_tries.specs.Tails.{tails}
use Rattle.access_tries.specs.Walks.{IsOf, addresses_in}
use Rattle.access_tries.proofs.Addresses.{reordered}
use Rattle.access_tries.proofs.least.all_of.Goals as goal

pub returns : goal.returns
returns c =
    let addresses = addresses_in c.args.addresses.now in
    let ordered = tails 0 c.deref.result.now in
    IfOk-weaker c.trie_of.result (IsOf ordered c.args.mark) (IsOf addresses c.args.mark)
    (λ t h. reordered addresses ordered c.args.mark t (subst (λ xs. IsPermutation addresses (tails 0 xs)) (sym c.deref.ensures.value) c.in_ok-ordered.ensures.same) h)
    c.trie_of.ensures
