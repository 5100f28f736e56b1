-- More ancestors of what is kept.
use Rattle.std.proofs.Common.{◌≡◌, ℕ, Bool, true, false, cond, ◌&&◌, ◌||◌, List, [], ◌∷◌, length, Contains, Option, Some, None, is_some, refl, sym, ap, ◌∙◌, subst, inl, inr, arith}
use Rattle.std.specs.Prelude.{◌↔◌, ◌==◌}
use Rattle.std.specs.BTreeMap.{BTreeMap, get}
use Rattle.std.specs.BTreeSet.{BTreeSet, contains}
use Rattle.std.specs.List.{AllZip}
use Rattle.std.specs.List.Sorted.{IsStrictlySortedBy}
use Rattle.std.specs.Option.{option_map}
use Rattle.std.specs.declared.vec.Vec.{Vec}
use Rattle.std.specs.declared.alloc.Global.{Global}
use Rattle.std.proofs.lemmas.Bool.{and_parts, and_from, or_cases, false≢true}
use Rattle.std.proofs.lemmas.List.{nil_from_length}
use Rattle.std.proofs.lemmas.Map.Views.{Contains-from_any, list_any-from_Contains, exact_unsigned_eq}
use Rattle.std.proofs.lemmas.Cmp.{eq_by_cmp_equiv}
use Rattle.policy_values.specs.declared.entity_uid.EntityUID.{EntityUID}
use Rattle.policy_values.specs.Uid.{uid_cmp, uid_eq, uid_cmp_total}
use Rattle.policy_core.specs.Operators.{above}
use Rattle.entity_store.specs.Store.{StoredEntity, Store}
use Rattle.reads_spec.proofs.Lists.{same_uid}
use Rattle.plain_lemmas.proofs.Booleans.{or_false, or_left_true, or_of_cond, or_right_true}
use Rattle.entity_loader.specs.Answers.{HasAncestor, IsHonestList}
use Rattle.entity_loader.specs.declared.loader.AncestorsRequest.{AncestorsRequest}
use Rattle.entity_loading.specs.Joining.{lists, asks, brings, AreAscending, HasMore, IsJoined}
use Rattle.entity_store.specs.FromParents.{without_links}
use Rattle.entity_loading.specs.KeptPart.{AreAlike}
use Rattle.entity_loading.specs.Keeping.{Found}
use Rattle.entity_loading.proofs.StoreSteps.{turned}

nothing_more : (a b : Bool) → (a || (b && false)) ≡ a
nothing_more true b = refl
nothing_more false true = refl
nothing_more false false = refl

pub has_from : (ids : List EntityUID) (y : EntityUID) → lists ids y ≡ true → Contains ids y
has_from ids y h = Contains-from_any same_uid y ids h

pub from_has : (ids : List EntityUID) (y : EntityUID) → Contains ids y → lists ids y ≡ true
from_has ids y h = list_any-from_Contains (eq_by_cmp_equiv uid_cmp_total) y ids h

-- ---- one entity

module _ (old new : BTreeMap EntityUID StoredEntity) (u : EntityUID) (ids : List EntityUID) where
  pub more_put : (e d : StoredEntity) → get uid_cmp old u ≡ Some d → ((y : EntityUID) → above (Some e) y ≡ (above (Some d) y || lists ids y)) → IsStrictlySortedBy uid_cmp e.ancestors
      → ((x : EntityUID) → get uid_cmp new x ≡ cond (uid_eq u x) (Some e) (get uid_cmp old x)) → HasMore (λ x y. uid_eq u x && lists ids y) (get uid_cmp old) (get uid_cmp new)
  more_put e d had more up put = record { each = λ x y. by x y (uid_eq u x) refl; ascending = λ ups x c h. rises ups x c (uid_eq u x) refl h }
    where
      by : (x y : EntityUID) (b : Bool) → uid_eq u x ≡ b → above (get uid_cmp new x) y ≡ (above (get uid_cmp old x) y || (is_some (get uid_cmp old x) && (uid_eq u x && lists ids y)))
      by x y true f =
          let hadx : get uid_cmp old x ≡ Some d = ap (get uid_cmp old) (sym (same_uid u x f)) ∙ had in
          ap (λ o. above o y) (put x ∙ ap (λ c. cond c (Some e) (get uid_cmp old x)) f) ∙ more y ∙ sym (λ i. above (hadx i) y || (is_some (hadx i) && (f i && lists ids y)))
      by x y false f =
          ap (λ o. above o y) (put x ∙ ap (λ c. cond c (Some e) (get uid_cmp old x)) f)
          ∙ sym (ap (λ c. above (get uid_cmp old x) y || (is_some (get uid_cmp old x) && (c && lists ids y))) f ∙ nothing_more (above (get uid_cmp old x) y) (is_some (get uid_cmp old x)))

      rises : AreAscending (get uid_cmp old) → (x : EntityUID) (c : StoredEntity) (b : Bool) → uid_eq u x ≡ b → get uid_cmp new x ≡ Some c → IsStrictlySortedBy uid_cmp c.ancestors
      rises ups x c true f h =
          let same : Some e ≡ Some c = sym (put x ∙ ap (λ b. cond b (Some e) (get uid_cmp old x)) f) ∙ h in
          let eq : e ≡ c = cc in
          subst (λ z. IsStrictlySortedBy uid_cmp z.ancestors) eq up
      rises ups x c false f h = ups x c (sym (put x ∙ ap (λ b. cond b (Some e) (get uid_cmp old x)) f) ∙ h)

pub more_none : (old : BTreeMap EntityUID StoredEntity) (u : EntityUID) (ids : List EntityUID) → get uid_cmp old u ≡ None → HasMore (λ x y. uid_eq u x && lists ids y) (get uid_cmp old) (get uid_cmp old)
more_none old u ids none = record { each = λ x y. by x y (uid_eq u x) refl; ascending = λ ups. ups }
  where
    by : (x y : EntityUID) (b : Bool) → uid_eq u x ≡ b → above (get uid_cmp old x) y ≡ (above (get uid_cmp old x) y || (is_some (get uid_cmp old x) && (uid_eq u x && lists ids y)))
    by x y true f = let nonex : get uid_cmp old x ≡ None = ap (get uid_cmp old) (sym (same_uid u x f)) ∙ none in rw nonex refl
    by x y false f = sym (ap (λ c. above (get uid_cmp old x) y || (is_some (get uid_cmp old x) && (c && lists ids y))) f ∙ nothing_more (above (get uid_cmp old x) y) (is_some (get uid_cmp old x)))

-- ---- ids one after another

module _ (ids : BTreeSet EntityUID) (rest : List EntityUID) (P : EntityUID → Bool) (t : (y : EntityUID) → (contains uid_cmp ids y || lists rest y) ≡ P y) where
  pub tests_next : (new : BTreeSet EntityUID) (id : EntityUID) (more : List EntityUID) → rest ≡ id ∷ more → ((q : EntityUID) → contains uid_cmp new q ≡ cond (uid_eq id q) true (contains uid_cmp ids q)) → (y : EntityUID) → (contains uid_cmp new y || lists more y) ≡ P y
  tests_next new id more s put y =
      ap (λ b. b || lists more y) (put y ∙ ap (λ b. cond b true (contains uid_cmp ids y)) (turned id y)) ∙ or_of_cond (uid_eq y id) (contains uid_cmp ids y) (lists more y)
      ∙ sym (ap (λ xs. contains uid_cmp ids y || lists xs y) s) ∙ t y

  pub tests_done : rest ≡ [] → (y : EntityUID) → contains uid_cmp ids y ≡ P y
  tests_done none y = sym (or_false (contains uid_cmp ids y)) ∙ sym (ap (λ xs. contains uid_cmp ids y || lists xs y) none) ∙ t y

pub none_counted : {X : Type 0} (xs : List X) (n : ℕ) → length xs ≡ n → (n == 0) ≡ true → xs ≡ []
none_counted xs n e h = nil_from_length xs (e ∙ exact_unsigned_eq n 0 h)

pub some_counted : {X : Type 0} (xs : List X) (n : ℕ) → length xs ≡ n → (n == 0) ≡ false → xs ≡ [] → ⊥
some_counted xs n e h none = false≢true (sym h ∙ ap (λ m. m == 0) (sym e ∙ ap (λ z. length z) none))

-- ---- all lists

pub record IsAdding (old : Found) (rs : List AncestorsRequest) (ls : List (Vec EntityUID Global)) (now : Found) (rests : List AncestorsRequest) (left : List (Vec EntityUID Global)) : Type 0 where
  pub each : (x y : EntityUID) → (above (now x) y || (is_some (now x) && brings rests left x y)) ≡ (above (old x) y || (is_some (old x) && brings rs ls x y))
  pub ascending : AreAscending old → AreAscending now
  pub fit : length rests ≡ length left

pub same_some : (o p : Option StoredEntity) → option_map without_links o ≡ option_map without_links p → is_some o ≡ is_some p
same_some None None h = refl
same_some None (Some e) h = absurd (cc)
same_some (Some e) None h = absurd (cc)
same_some (Some e) (Some d) h = refl

one_more : (a s m b : Bool) → ((a || (s && m)) || (s && b)) ≡ (a || (s && (m || b)))
one_more true s m b = refl
one_more false true m b = refl
one_more false false m b = refl

module _ (old : Found) (rs : List AncestorsRequest) (ls : List (Vec EntityUID Global)) (now : Found) (rests : List AncestorsRequest) (left : List (Vec EntityUID Global)) (t : IsAdding old rs ls now rests left) where
  pub adding_next : (new : Found) (r : AncestorsRequest) (later : List AncestorsRequest) (l : Vec EntityUID Global) (last : List (Vec EntityUID Global)) → rests ≡ r ∷ later → left ≡ l ∷ last
      → AreAlike new now → HasMore (λ x y. uid_eq r.entity_id x && lists l.items y) now new → IsAdding old rs ls new later last
  adding_next new r later l last er el alike m = record {
    each = λ x y.
        (λ i. m.each x y i || (same_some (new x) (now x) (alike x) i && brings later last x y))
        ∙ one_more (above (now x) y) (is_some (now x)) (uid_eq r.entity_id x && lists l.items y) (brings later last x y)
        ∙ sym (λ i. above (now x) y || (is_some (now x) && brings (er i) (el i) x y)) ∙ t.each x y;
    ascending = λ ups. m.ascending (t.ascending ups);
    fit = let a = ap (λ z. length z) er in let b = ap (λ z. length z) el in omega (arith, t.fit, a, b);
  }

  pub adding_done : rests ≡ [] → HasMore (brings rs ls) old now
  adding_done none = record {
    each = λ x y. sym (nothing_more (above (now x) y) (is_some (now x))) ∙ sym (ap (λ z. above (now x) y || (is_some (now x) && brings z left x y)) none) ∙ t.each x y;
    ascending = t.ascending;
  }

  pub none_left : (r : AncestorsRequest) (later : List AncestorsRequest) → rests ≡ r ∷ later → left ≡ [] → ⊥
  none_left r later er el = let a = ap (λ z. length z) er in let b = ap (λ z. length z) el in omega (arith, t.fit, a, b)

-- ---- of an honest loader

module _ (exact : Bool) (s : Store) where
  brought_given : (rs : List AncestorsRequest) (ls : List (Vec EntityUID Global)) (x y : EntityUID) → AllZip (IsHonestList exact s) rs ls → brings rs ls x y ≡ true → HasAncestor s x y
  brought_given [] ls x y a h = absurd (false≢true h)
  brought_given (r ∷ rs) [] x y a h = absurd (false≢true h)
  brought_given (r ∷ rs) (l ∷ ls) x y a h = elim (or_cases (uid_eq r.entity_id x && lists l.items y) (brings rs ls x y) h) [
    | inl i ↦ let p = and_parts (uid_eq r.entity_id x) (lists l.items y) i in subst (λ z. HasAncestor s z y) (same_uid r.entity_id x p.0) (a.0.given y (has_from l.items y p.1))
    | inr i ↦ brought_given rs ls x y a.1 i
  ]

  brought_enough : (rs : List AncestorsRequest) (ls : List (Vec EntityUID Global)) (x y : EntityUID) → AllZip (IsHonestList exact s) rs ls → HasAncestor s x y → asks rs x y ≡ true → brings rs ls x y ≡ true
  brought_enough [] ls x y a has h = absurd (false≢true h)
  brought_enough (r ∷ rs) [] x y a has h = absurd a
  brought_enough (r ∷ rs) (l ∷ ls) x y a has h = elim (or_cases (uid_eq r.entity_id x && lists r.ancestors.items y) (asks rs x y) h) [
    | inl i ↦
        let p = and_parts (uid_eq r.entity_id x) (lists r.ancestors.items y) i in
        or_left_true (uid_eq r.entity_id x && lists l.items y) (brings rs ls x y)
        (and_from (uid_eq r.entity_id x) (lists l.items y) p.0 (from_has l.items y (a.0.enough y (has_from r.ancestors.items y p.1) (subst (λ z. HasAncestor s z y) (sym (same_uid r.entity_id x p.0)) has))))
    | inr i ↦ or_right_true (uid_eq r.entity_id x && lists l.items y) (brings rs ls x y) (brought_enough rs ls x y a.1 has i)
  ]

  brought_only : exact ≡ true → (rs : List AncestorsRequest) (ls : List (Vec EntityUID Global)) (x y : EntityUID) → AllZip (IsHonestList exact s) rs ls → brings rs ls x y ≡ true → asks rs x y ≡ true
  brought_only e [] ls x y a h = absurd (false≢true h)
  brought_only e (r ∷ rs) [] x y a h = absurd (false≢true h)
  brought_only e (r ∷ rs) (l ∷ ls) x y a h = elim (or_cases (uid_eq r.entity_id x && lists l.items y) (brings rs ls x y) h) [
    | inl i ↦
        let p = and_parts (uid_eq r.entity_id x) (lists l.items y) i in
        or_left_true (uid_eq r.entity_id x && lists r.ancestors.items y) (asks rs x y) (and_from (uid_eq r.entity_id x) (lists r.ancestors.items y) p.0 (from_has r.ancestors.items y (a.0.exactly e y (has_from l.items y p.1))))
    | inr i ↦ or_right_true (uid_eq r.entity_id x && lists r.ancestors.items y) (asks rs x y) (brought_only e rs ls x y a.1 i)
  ]

  module _ (P : EntityUID → EntityUID → Type 0) (rs : List AncestorsRequest) (asked : (x y : EntityUID) → (asks rs x y ≡ true) ↔ P x y) (old : Found) where
    pub joined : (ls : List (Vec EntityUID Global)) (new : Found) → AllZip (IsHonestList exact s) rs ls → HasMore (brings rs ls) old new → IsJoined exact s P old new
    joined ls new a m = record {
      enough = λ x y there p has. m.each x y ∙ or_right_true (above (old x) y) (is_some (old x) && brings rs ls x y) (and_from (is_some (old x)) (brings rs ls x y) there (brought_enough rs ls x y a has ((asked x y).1 p)));
      given = λ x y h. elim (or_cases (above (old x) y) (is_some (old x) && brings rs ls x y) (sym (m.each x y) ∙ h)) [
        | inl i ↦ inl i
        | inr i ↦ inr (brought_given rs ls x y a (and_parts (is_some (old x)) (brings rs ls x y) i).1)
      ];
      exactly = λ e x y h. elim (or_cases (above (old x) y) (is_some (old x) && brings rs ls x y) (sym (m.each x y) ∙ h)) [
        | inl i ↦ inl i
        | inr i ↦ inr ((asked x y).0 (brought_only e rs ls x y a (and_parts (is_some (old x)) (brings rs ls x y) i).1))
      ];
    }

    -- nothing is asked for
    pub joined_none : rs ≡ [] → IsJoined exact s P old old
    joined_none none = record {
      enough = λ x y there p has. absurd (false≢true (sym (ap (λ z. asks z x y) none) ∙ (asked x y).1 p));
      given = λ x y h. inl h;
      exactly = λ e x y h. inl h;
    }
