-- What is found, each once, and a set that says what was.
use Rattle.std.proofs.Common.{◌≡◌, ℕ, ◌+◌, ◌<◌, length, get_or, drop, Bool, true, false, ◌||◌, cond, List, [], ◌∷◌, ◌++◌, Option, Some, None, fold, refl, sym, ap, ◌∙◌, subst, map}
use Rattle.std.specs.List.{list_any, flat_map, AllByRecursion}
use Rattle.std.proofs.lemmas.List.{drop_more}
use Rattle.std.specs.Cmp.{IsTotalOrder, on_total, then_total, nat_cmp_total}
use Rattle.std.specs.Cmp.Lexicographic.{options_total}
use Rattle.std.specs.Ordering.{is_eq}
use Rattle.std.specs.BTreeSet.{BTreeSet, contains}
use Rattle.std.proofs.lemmas.Cmp.{eq_by_cmp_equiv}
use Rattle.std.proofs.lemmas.List.Folds.{list_any-append}
use Rattle.policy_values.specs.Reaches.{has}
use Rattle.policy_expressions.specs.declared.kinds.Loc.{Loc}
use Rattle.policy_scope.specs.Names.{loc_cmp, with_new, distinct}
use Rattle.level_spec.specs.Findings.{LevelFault}
use Rattle.typing_spec.specs.Typing.{Typed}
use Rattle.schema_core.specs.declared.request_env.RequestEnv.{RequestEnv}
use Rattle.level_validate.specs.Errors.{faults_in, condition_in}
use Rattle.level_validate.specs.Faults.{fault_at, parts_of, parts_cmp, fault_cmp}
use Rattle.level_validate.specs.Seen.{HasSeen}

abbrev Parts : Type 0
Parts = Option ℕ × Option Loc

loc_total : IsTotalOrder loc_cmp
loc_total = then_total (on_total (λ l. l.start) nat_cmp_total) (on_total (λ l. l.end) nat_cmp_total)

parts_total : IsTotalOrder parts_cmp
parts_total = then_total (on_total (λ (k : Parts). k.0) (options_total nat_cmp_total)) (on_total (λ (k : Parts). k.1) (options_total loc_total))

parts_back : (o : Option ℕ) (l : Option Loc) → parts_of (fault_at o l) ≡ (o, l)
parts_back None l = refl
parts_back (Some k) l = refl

-- what is kept so far, with what is left, makes the whole, and the set has what is kept
pub record IsOnce (seen : BTreeSet Parts) (left whole found : List LevelFault) : Type 0 where
  pub rest : fold (with_new fault_cmp) found left ≡ whole
  pub reported : HasSeen seen found

new_reported : (e s : Bool) → (s || (e || false)) ≡ cond e true s
new_reported true true = refl
new_reported true false = refl
new_reported false true = refl
new_reported false false = refl

module _ (o : Option ℕ) (l : Option Loc) (seen seen2 : BTreeSet Parts) (left whole found : List LevelFault) (h : IsOnce seen (fault_at o l ∷ left) whole found) where
  -- what is new
  pub once_new : (found2 : List LevelFault) → contains parts_cmp seen (o, l) ≡ false → ((q : Parts) → contains parts_cmp seen2 q ≡ cond (is_eq (parts_cmp (o, l) q)) true (contains parts_cmp seen q))
      → found2 ≡ found ++ fault_at o l ∷ [] → IsOnce seen2 left whole found2
  once_new found2 absent updates pushed = rw pushed record {
    rest = subst (λ b. fold (with_new fault_cmp) (cond b found (found ++ fault_at o l ∷ [])) left ≡ whole) (h.reported (fault_at o l) ∙ ap (contains parts_cmp seen) (parts_back o l) ∙ absent) h.rest;
    reported = λ f.
        list_any-append (λ x. is_eq (fault_cmp f x)) found (fault_at o l ∷ [])
        ∙ (λ i. h.reported f i || (is_eq (parts_cmp (parts_of f) (parts_back o l i)) || false))
        ∙ new_reported (is_eq (parts_cmp (parts_of f) (o, l))) (contains parts_cmp seen (parts_of f))
        ∙ ap (λ b. cond b true (contains parts_cmp seen (parts_of f))) ((eq_by_cmp_equiv parts_total).symm (parts_of f) (o, l))
        ∙ sym (updates (parts_of f));
  }

  -- what is there already
  pub once_old : contains parts_cmp seen (o, l) ≡ true → seen2.keys ≡ seen.keys → IsOnce seen2 left whole found
  once_old there same = record {
    rest = subst (λ b. fold (with_new fault_cmp) (cond b found (found ++ fault_at o l ∷ [])) left ≡ whole) (h.reported (fault_at o l) ∙ ap (contains parts_cmp seen) (parts_back o l) ∙ there) h.rest;
    reported = λ f. h.reported f ∙ ap (list_any (λ k. is_eq (parts_cmp (parts_of f) k))) (sym same);
  }

-- one list after another
fold_both : {A B : Type 0} (f : B → A → B) (b : B) (xs ys : List A) → fold f b (xs ++ ys) ≡ fold f (fold f b xs) ys
fold_both f b [] ys = refl
fold_both f b (x ∷ xs) ys = fold_both f (f b x) xs ys

-- one condition more
pub next_rest : (n : ℕ) (cs : List (RequestEnv × Typed)) (i : ℕ) (c : RequestEnv × Typed) (before now whole : List LevelFault) → i < length cs → c ≡ get_or cs i c →
    now ≡ fold (with_new fault_cmp) before (faults_in n (condition_in c)) → fold (with_new fault_cmp) before (flat_map (faults_in n) (map condition_in (drop i cs))) ≡ whole → fold (with_new fault_cmp) now (flat_map (faults_in n) (map condition_in (drop (i + 1) cs))) ≡ whole
next_rest n cs i c before now whole lt is made rest =
    let first : drop i cs ≡ c ∷ drop (i + 1) cs = drop_more cs i c lt ∙ ap (λ x. x ∷ drop (i + 1) cs) (sym is) in
    ap (λ fs. fold (with_new fault_cmp) fs (flat_map (faults_in n) (map condition_in (drop (i + 1) cs)))) made
    ∙ sym (fold_both (with_new fault_cmp) before (faults_in n (condition_in c)) (flat_map (faults_in n) (map condition_in (drop (i + 1) cs))))
    ∙ ap (λ xs. fold (with_new fault_cmp) before (flat_map (faults_in n) (map condition_in xs))) (sym first) ∙ rest

-- what holds of all holds of all that is kept
pub all_kept : (P : LevelFault → Type 0) (found left : List LevelFault) → AllByRecursion P found → AllByRecursion P left → AllByRecursion P (fold (with_new fault_cmp) found left)
all_kept P found [] h i = h
all_kept P found (x ∷ left) h i = all_kept P (with_new fault_cmp found x) left (here (has fault_cmp found x)) i.1
  where
    behind : (xs : List LevelFault) → AllByRecursion P xs → AllByRecursion P (xs ++ x ∷ [])
    behind [] k = (i.0, tt)
    behind (y ∷ ys) k = (k.0, behind ys k.1)

    here : (b : Bool) → AllByRecursion P (cond b found (found ++ x ∷ []))
    here true = h
    here false = behind found h

-- where something is kept, it stays
some_kept : (y : LevelFault) (ys left : List LevelFault) → fold (with_new fault_cmp) (y ∷ ys) left ≡ [] → ⊥
some_kept y ys [] h = cc
some_kept y ys (x ∷ left) h = here (has fault_cmp (y ∷ ys) x) h (λ zs k. some_kept y zs left k)
  where
    here : (b : Bool) → fold (with_new fault_cmp) (cond b (y ∷ ys) (y ∷ (ys ++ x ∷ []))) left ≡ [] → ((zs : List LevelFault) → fold (with_new fault_cmp) (y ∷ zs) left ≡ [] → ⊥) → ⊥
    here true k f = f ys k
    here false k f = f (ys ++ x ∷ []) k

pub none_distinct : (xs : List LevelFault) → distinct fault_cmp xs ≡ [] → xs ≡ []
none_distinct [] h = refl
none_distinct (x ∷ xs) h = absurd (some_kept x [] xs h)
