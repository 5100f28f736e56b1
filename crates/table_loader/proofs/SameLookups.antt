-- Fields of ascending keys are those that look-ups find. By recursion on both: their first keys are equal, since the
-- lesser one would be found in one of them alone; so their first values are, and the look-ups of what is behind.
use Rattle.std.proofs.Common.{◌≡◌, ℕ, Bool, true, false, cond, List, Some, None, refl, sym, ap, ◌∙◌, subst}
use Rattle.std.specs.Ordering.{is_eq, ordering_reverse}
use Rattle.std.specs.declared.cmp.Ordering.{Ordering}
use Rattle.std.specs.declared.cmp.Ordering.TheVariants.{Less, Equal, Greater}
use Rattle.std.proofs.lemmas.Cmp.{tied_itself, nat_list_cmp_total}
use Rattle.std.proofs.lemmas.Map.Lookups.{exact_bytes}
use Rattle.plain_lemmas.proofs.Options.{some_injective}
use Rattle.policy_values.specs.Ties.{equal_of}
use Rattle.policy_values.specs.Uid.{text_cmp}
use Rattle.policy_values.specs.Value.{Val, Fields, no_fields, field, field_at}
use Rattle.table_loader.specs.Order.{IsBelowAll}
use Rattle.table_loader.specs.OrderLaws.{FieldsAreTheirLookups}

none_below : (k : List ℕ) (fs : Fields) → IsBelowAll k fs → field_at fs k ≡ None
none_below k no_fields h = refl
none_below k (field l v fs) h =
    ap (λ o. cond (is_eq o) (Some v) (field_at fs k)) h.0 ∙ none_below k fs h.1

below_all_by_less : (k l : List ℕ) (fs : Fields) → text_cmp k l ≡ Less → IsBelowAll l fs → IsBelowAll k fs
below_all_by_less k l no_fields less below = tt
below_all_by_less k l (field m v fs) less below =
    (nat_list_cmp_total.trans k l m less below.0, below_all_by_less k l fs less below.1)

first_found : (k : List ℕ) (v : Val) (fs : Fields) → field_at (field k v fs) k ≡ Some v
first_found k v fs =
    ap (λ o. cond (is_eq o) (Some v) (field_at fs k)) (tied_itself nat_list_cmp_total k)

-- a first field is not missing in what has the same look-ups
not_missing : {R : Type 0} (k : List ℕ) (v : Val) (fs gs : Fields) →
    field_at (field k v fs) k ≡ field_at gs k → field_at gs k ≡ None → R
not_missing k v fs gs same none =
    let no : Some v ≡ None = sym (first_found k v fs) ∙ same ∙ none in absurd (cc)

-- behind first fields of one key look-ups find the same, where they do with these fields
behind_first : (k : List ℕ) (v w : Val) (fs gs : Fields) → IsBelowAll k fs → IsBelowAll k gs →
    ((q : List ℕ) → field_at (field k v fs) q ≡ field_at (field k w gs) q) →
    (q : List ℕ) → field_at fs q ≡ field_at gs q
behind_first k v w fs gs first second same q = by (is_eq (text_cmp q k)) refl (same q)
  where
    by : (b : Bool) → is_eq (text_cmp q k) ≡ b →
        cond b (Some v) (field_at fs q) ≡ cond b (Some w) (field_at gs q) → field_at fs q ≡ field_at gs q
    by true e h =
        let is : q ≡ k = exact_bytes q k (equal_of (text_cmp q k) e) in
        none_below q fs (subst (λ m. IsBelowAll m fs) (sym is) first) ∙
        sym (none_below q gs (subst (λ m. IsBelowAll m gs) (sym is) second))
    by false e h = h

pub their_lookups : FieldsAreTheirLookups
their_lookups no_fields no_fields h k same = refl
their_lookups no_fields (field l w gs) h k same = not_missing l w gs no_fields (sym (same l)) refl
their_lookups (field l v fs) no_fields h k same = not_missing l v fs no_fields (same l) refl
their_lookups (field m v fs) (field l w gs) h k same = by (text_cmp m l) refl (their_lookups fs gs h.1 k.1)
  where
    by : (o : Ordering) → text_cmp m l ≡ o →
        (((q : List ℕ) → field_at fs q ≡ field_at gs q) → fs ≡ gs) → field m v fs ≡ field l w gs
    by Less e rest =
        not_missing m v fs (field l w gs) (same m)
        (none_below m (field l w gs) (e, below_all_by_less m l gs e k.0))
    by Greater e rest =
        let less : text_cmp l m ≡ Less = nat_list_cmp_total.antisymm l m ∙ ap ordering_reverse e in
        not_missing l w gs (field m v fs) (sym (same l))
        (none_below l (field m v fs) (less, below_all_by_less l m fs less h.0))
    by Equal e rest =
        let is : l ≡ m = sym (exact_bytes m l e) in
        let alike : (q : List ℕ) → field_at (field m v fs) q ≡ field_at (field m w gs) q =
        λ q. same q ∙ ap (λ n. field_at (field n w gs) q) is in
        let value : v ≡ w = some_injective (sym (first_found m v fs) ∙ alike m ∙ first_found m w gs) in
        let tails = rest (behind_first m v w fs gs h.0 (subst (λ n. IsBelowAll n gs) is k.0) alike) in
        λ i. field (sym is i) (value i) (tails i)
