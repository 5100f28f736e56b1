use Rattle.std.proofs.Common.{true, false, subst, ap, ◌∙◌}
use Rattle.std.proofs.lemmas.Result.{IfOk-weaker}
use Rattle.access_tries.specs.Paths.{IsUnion, IsLeast}
use Rattle.access_tries.specs.Walks.{IsOf, addresses_in}
use Rattle.access_tries.proofs.Addresses.{least_of, least_of_reads, none_in}
use Rattle.access_tries.proofs.Prefixes.{of_same_prefixes}
use Rattle.access_tries.proofs.least.least_trie.Goals as goal

pub returns : goal.returns
returns c =
    let read = c.in_ok-read-2.read in
    let demanded = c.in_ok-demanded-2.demanded in
    IfOk-weaker c.union.result (IsUnion read demanded) (IsLeast c.args.reads.now c.args.demands.now)
    (λ u h. least_of _ _ read demanded u (of_same_prefixes _ _ read c.in_ok-read.ensures (subst (λ xs. IsOf xs false read) (ap addresses_in c.deref.ensures.value) c.in_ok-read-2.ensures)) (subst (λ xs. IsOf xs true demanded) (ap addresses_in c.deref-2.ensures.value ∙ c.in_ok-demanded.ensures) c.in_ok-demanded-2.ensures) h)
    c.union.ensures

pub returns-in-empty : goal.returns-in-empty
returns-in-empty c =
    let read = c.in_ok-read-2.read in
    rw (none_in c.args.demands.now c.in-empty.len_below) (least_of_reads _ read (of_same_prefixes _ _ read c.in_ok-read.ensures (subst (λ xs. IsOf xs false read) (ap addresses_in c.deref.ensures.value) c.in_ok-read-2.ensures)))
