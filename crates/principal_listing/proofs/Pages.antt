-- Pages give all ids.
use Rattle.std.proofs.Common.{◌≡◌, ◌≤◌, ◌<◌, ℕ, zero, suc, nat_lt, true, false, List, [], ◌∷◌, ◌++◌, Option, Some, None, refl, sym, ap, ◌∙◌, subst, arith, append_assoc}
use Rattle.std.specs.Prelude.{take, drop, length, map, flat_map}
use Rattle.std.specs.List.{AllByRecursion}
use Rattle.std.specs.List.Sorted.{IsStrictlySortedBy}
use Rattle.std.specs.Ordering.{is_lt, ordering_reverse}
use Rattle.std.specs.declared.cmp.Ordering.{Ordering}
use Rattle.std.specs.declared.cmp.Ordering.TheVariants.{Less, Equal, Greater}
use Rattle.std.proofs.lemmas.Cmp.{tied_itself}
use Rattle.std.proofs.lemmas.List.{append-nil, take-append-drop, take_all}
use Rattle.std.proofs.lemmas.List.Kept.{IsStrictlySortedBy-filter}
use Rattle.std.proofs.lemmas.Map.Keys.{sorted_head, sorted_tail}
use Rattle.policy_values.specs.declared.entity_uid.EntityUID.{EntityUID}
use Rattle.policy_values.specs.Uid.{uid_cmp, uid_cmp_total}
use Rattle.principal_listing.specs.Allowed.{is_allowed, allowed_principals}
use Rattle.principal_listing.specs.Laws.{PagesAreAll}
use Rattle.principal_listing.specs.Pages.{after, last_of, AreResumed}
use Rattle.principal_listing.specs.declared.page.Page.{Page}

abbrev Sorted : List EntityUID → Type 0
Sorted us = IsStrictlySortedBy uid_cmp us

abbrev AllAfter : EntityUID → List EntityUID → Type 0
AllAfter x us = AllByRecursion (λ u. uid_cmp x u ≡ Less) us

keep_all : (x : EntityUID) (us : List EntityUID) → AllAfter x us → after (Some x) us ≡ us
keep_all x [] h = refl
keep_all x (u ∷ us) h = rw h.0 (ap (λ l. u ∷ l) (keep_all x us h.1))

drop_first : (x u : EntityUID) (us : List EntityUID) → is_lt (uid_cmp x u) ≡ false → after (Some x) (u ∷ us) ≡ after (Some x) us
drop_first x u us h = rw h refl

further : (x u : EntityUID) (us : List EntityUID) → uid_cmp x u ≡ Less → AllAfter u us → AllAfter x us
further x u [] h k = tt
further x u (v ∷ us) h k = (uid_cmp_total.trans x u v h k.0, further x u us h k.1)

-- what comes after y, where y stands among ascending ids
skip : (y : EntityUID) (ps us : List EntityUID) → Sorted (ps ++ y ∷ us) → after (Some y) (ps ++ y ∷ us) ≡ us
skip y [] us s = drop_first y y us (ap is_lt (tied_itself uid_cmp_total y)) ∙ keep_all y us (sorted_head uid_cmp y us s)
skip y (p ∷ ps) us s =
    drop_first y p (ps ++ y ∷ us) (ap is_lt (uid_cmp_total.antisymm y p ∙ ap ordering_reverse (among ps (sorted_head uid_cmp p (ps ++ y ∷ us) s))))
    ∙ skip y ps us (sorted_tail uid_cmp p (ps ++ y ∷ us) s)
  where
    among : (ps : List EntityUID) → AllAfter p (ps ++ y ∷ us) → uid_cmp p y ≡ Less
    among [] h = h.0
    among (q ∷ ps) h = among ps h.1

-- what comes after x is the end of ascending ids
record IsEnd (vs us : List EntityUID) : Type 0 where
  prefix : List EntityUID
  is : us ≡ prefix ++ vs

end_of : (x : EntityUID) (us : List EntityUID) → Sorted us → IsEnd (after (Some x) us) us
end_of x [] s = record { prefix = []; is = refl }
end_of x (u ∷ us) s = by (uid_cmp x u) refl (end_of x us (sorted_tail uid_cmp u us s))
  where
    by : (o : Ordering) → uid_cmp x u ≡ o → IsEnd (after (Some x) us) us → IsEnd (after (Some x) (u ∷ us)) (u ∷ us)
    by Less e rest = record { prefix = []; is = sym (keep_all x (u ∷ us) (e, further x u us e (sorted_head uid_cmp u us s))) }
    by Equal e rest = record { prefix = u ∷ rest.prefix; is = ap (λ l. u ∷ l) rest.is ∙ ap (λ l. u ∷ (rest.prefix ++ l)) (sym (drop_first x u us (ap is_lt e))) }
    by Greater e rest = record { prefix = u ∷ rest.prefix; is = ap (λ l. u ∷ l) rest.is ∙ ap (λ l. u ∷ (rest.prefix ++ l)) (sym (drop_first x u us (ap is_lt e))) }

ends : (x : Option EntityUID) (us : List EntityUID) → Sorted us → IsEnd (after x us) us
ends None us s = record { prefix = []; is = refl }
ends (Some x) us s = end_of x us s

-- the last of some ids
record HasLast (ws : List EntityUID) : Type 0 where
  prefix : List EntityUID
  last : EntityUID
  is : ws ≡ prefix ++ last ∷ []
  named : last_of ws ≡ Some last

last_in : (w : EntityUID) (ws : List EntityUID) → HasLast (w ∷ ws)
last_in w [] = record { prefix = []; last = w; is = refl; named = refl }
last_in w (v ∷ ws) = let r = last_in v ws in record { prefix = w ∷ r.prefix; last = r.last; is = ap (λ l. w ∷ l) r.is; named = r.named }

last_taken : (n : ℕ) → 1 ≤ n → (vs : List EntityUID) → n < length vs → HasLast (take n vs)
last_taken zero one vs h = absurd (omega arith)
last_taken (suc n) one [] h = absurd (omega arith)
last_taken (suc n) one (v ∷ vs) h = last_in v (take n vs)

-- the next page begins behind the last id
resumed : (us : List EntityUID) → Sorted us → (vs : List EntityUID) → IsEnd vs us → (n : ℕ) → HasLast (take n vs) → after (last_of (take n vs)) us ≡ drop n vs
resumed us s vs end n l =
    ap (λ o. after o us) l.named
    ∙ ap (after (Some l.last)) split
    ∙ skip l.last (end.prefix ++ l.prefix) (drop n vs) (subst Sorted split s)
  where
    split : us ≡ (end.prefix ++ l.prefix) ++ l.last ∷ drop n vs
    split =
        end.is ∙ ap (λ k. end.prefix ++ k) (sym (take-append-drop n vs) ∙ ap (λ k. k ++ drop n vs) l.is ∙ append_assoc l.prefix (l.last ∷ []) (drop n vs))
        ∙ sym (append_assoc end.prefix l.prefix (l.last ∷ drop n vs))

module _ (us : List EntityUID) (s : Sorted us) (n : ℕ) (one : 1 ≤ n) where
  no_more : (vs : List EntityUID) → nat_lt n (length vs) ≡ false → take n vs ≡ vs
  no_more vs e = take_all n vs (search (arith))

  some_more : (vs : List EntityUID) → nat_lt n (length vs) ≡ true → n < length vs
  some_more vs e = search (arith)

  all : (x : Option EntityUID) (pages : List Page) → AreResumed n us x pages → flat_map (λ p. p.ids.items) pages ≡ after x us
  all x [] h = absurd h
  all x (p ∷ []) h = append-nil p.ids.items ∙ h.0.ids ∙ no_more (after x us) (sym h.0.more ∙ h.1)
  all x (p ∷ r ∷ pages) h =
      let l = last_taken n one (after x us) (some_more (after x us) (sym h.0.more ∙ h.1)) in
      ap (λ rest. p.ids.items ++ rest)
      (all (last_of p.ids.items) (r ∷ pages) h.2 ∙ ap (λ ws. after (last_of ws) us) h.0.ids ∙ resumed us s (after x us) (ends x us s) n l)
      ∙ ap (λ ws. ws ++ drop n (after x us)) h.0.ids
      ∙ take-append-drop n (after x us)

pub all_pages : PagesAreAll
all_pages schema ps q s ids n one x pages h =
    all (allowed_principals schema ps q s) (IsStrictlySortedBy-filter uid_cmp (is_allowed schema ps q s) (map (λ e. e.uid) s) ids) n one x pages h
