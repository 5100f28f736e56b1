-- What a smaller part of a store names, a larger one names.
use Rattle.std.proofs.Common.{◌≡◌, ◌⊎◌, ℕ, Bool, true, false, List, [], ◌∷◌, Option, Some, None, refl, sym, ap, ◌∙◌, subst, inl, inr}
use Rattle.std.specs.Prelude.{if◌then◌else◌}
use Rattle.std.specs.List.{list_any}
use Rattle.std.specs.Option.{option_to_list, option_map}
use Rattle.std.specs.Ordering.{is_eq}
use Rattle.std.proofs.lemmas.Bool.{false≢true}
use Rattle.policy_values.specs.declared.entity_uid.EntityUID.{EntityUID}
use Rattle.policy_values.specs.Uid.{text_cmp, uid_eq}
use Rattle.entity_store.specs.declared.request.Request.{Request}
use Rattle.entity_store.specs.Store.{StoredEntity, Store, entity_at}
use Rattle.policy_values.specs.Value.{Val, truth, long, string, entity, set, rec, decimal, ip, datetime, duration, Fields, no_fields, field, field_at}
use Rattle.access_tries.specs.Paths.{AccessPath}
use Rattle.reads_spec.specs.Paths.{Chain, Step, along, any_tag}
use Rattle.reads_spec.specs.Restrict.{Keep, cut, cut_fields, cut_entity, part, names_id, values_in, root_value, step, walk, reach}
use Rattle.reads_spec.proofs.Cuts.{field_at-cut, entity_at-part, cut_all}
use Rattle.reads_spec.proofs.Lists.{IsIn, any_in, in_flat_map, flat_map_out, same_text, same_uid}
use Rattle.reads_spec.proofs.Order.{cases}
use Rattle.reads_spec.proofs.Words.{any_out}

abbrev IsLess : (Chain → Bool) → (Chain → Bool) → Type 0
IsLess n k = (c : Chain) → n c ≡ true → k c ≡ true

-- both are cut of one value, and less is left of the first
record IsSmaller (v w : Val) : Type 0 where
  whole : Val
  mask : Chain → Bool
  more : Chain → Bool
  less : IsLess mask more
  is : v ≡ cut whole mask
  is_more : w ≡ cut whole more

-- a larger value among these
record HasLarger (v : Val) (ws : List Val) : Type 0 where
  value : Val
  among : IsIn value ws
  smaller : IsSmaller v value

named_cut : (u : Val) (m : Chain → Bool) (y : EntityUID) → names_id y (cut u m) ≡ names_id y u
named_cut (rec fs) m y = refl
named_cut v m y = refl

named_more : (v w : Val) (y : EntityUID) → IsSmaller v w → names_id y v ≡ true → names_id y w ≡ true
named_more v w y t h = ap (names_id y) t.is_more ∙ named_cut t.whole t.more y ∙ sym (named_cut t.whole t.mask y) ∙ sym (ap (names_id y) t.is) ∙ h

not_chosen : (fs : Fields) (k : Chain → Bool) (n : List ℕ) → k (n ∷ []) ≡ false → field_at (cut_fields fs k) n ≡ None
not_chosen no_fields k n h = refl
not_chosen (field m v fs) k n h = here (k (m ∷ [])) refl (is_eq (text_cmp n m)) refl (not_chosen fs k n h)
  where
    here : (c : Bool) → k (m ∷ []) ≡ c → (b : Bool) → is_eq (text_cmp n m) ≡ b → field_at (cut_fields fs k) n ≡ None → field_at (if c then field m (cut v (λ d. k (m ∷ d))) (cut_fields fs k) else cut_fields fs k) n ≡ None
    here true f true e ih = let g : k (n ∷ []) ≡ true = ap (λ z. k (z ∷ [])) (same_text n m e) ∙ f in absurd (false≢true (sym h ∙ g))
    here true f false e ih = rw e ih
    here false f b e ih = ih

listed : (o : Option Val) (w : Val) → IsIn w (option_to_list o) → o ≡ Some w
listed None w h = absurd h
listed (Some u) w (inl e) = ap Some e
listed (Some u) w (inr h) = absurd h

field_larger : (fs : Fields) (n k : Chain → Bool) (m : List ℕ) → IsLess n k → (v : Val) → IsIn v (option_to_list (field_at (cut_fields fs n) m)) → HasLarger v (option_to_list (field_at (cut_fields fs k) m))
field_larger fs n k m less v h = by (cases (n (m ∷ [])))
  where
    found : n (m ∷ []) ≡ true → (o : Option Val) → field_at fs m ≡ o → HasLarger v (option_to_list (field_at (cut_fields fs k) m))
    found f None e = absurd (rw (field_at-cut fs n m f, e) at h)
    found f (Some u) e =
        let there = field_at-cut fs k m (less (m ∷ []) f) ∙ ap (option_map (λ w. cut w (λ c. k (m ∷ c)))) e in
        let is : Some (cut u (λ c. n (m ∷ c))) ≡ Some v = sym (field_at-cut fs n m f ∙ ap (option_map (λ w. cut w (λ c. n (m ∷ c)))) e) ∙ listed (field_at (cut_fields fs n) m) v h in
        let same : cut u (λ c. n (m ∷ c)) ≡ v = cc in
        record {
          value = cut u (λ c. k (m ∷ c));
          among = subst (λ o. IsIn (cut u (λ c. k (m ∷ c))) (option_to_list o)) (sym there) (inl refl);
          smaller = record { whole = u; mask = λ c. n (m ∷ c); more = λ c. k (m ∷ c); less = λ c. less (m ∷ c); is = sym same; is_more = refl };
        }

    by : (n (m ∷ []) ≡ true) ⊎ (n (m ∷ []) ≡ false) → HasLarger v (option_to_list (field_at (cut_fields fs k) m))
    by (inl f) = found f (field_at fs m) refl
    by (inr f) = absurd (subst (λ o. IsIn v (option_to_list o)) (not_chosen fs n m f) h)

-- chains of one key or more
abbrev IsLessBelow : (Chain → Bool) → (Chain → Bool) → Type 0
IsLessBelow n k = (m : List ℕ) (c : Chain) → n (m ∷ c) ≡ true → k (m ∷ c) ≡ true

tag_larger : (fs : Fields) (n k : Chain → Bool) → IsLessBelow n k → (v : Val) → IsIn v (values_in (cut_fields fs n)) → HasLarger v (values_in (cut_fields fs k))
tag_larger no_fields n k less v h = absurd h
tag_larger (field m u fs) n k less v h = here (n (m ∷ [])) refl h (tag_larger fs n k less v)
  where
    later : HasLarger v (values_in (cut_fields fs k)) → HasLarger v (values_in (cut_fields (field m u fs) k))
    later r = record { value = r.value; among = at_test (k (m ∷ [])); smaller = r.smaller }
      where
        at_test : (b : Bool) → IsIn r.value (values_in (if b then field m (cut u (λ d. k (m ∷ d))) (cut_fields fs k) else cut_fields fs k))
        at_test true = inr r.among
        at_test false = r.among

    here : (b : Bool) → n (m ∷ []) ≡ b → IsIn v (values_in (if b then field m (cut u (λ d. n (m ∷ d))) (cut_fields fs n) else cut_fields fs n)) → (IsIn v (values_in (cut_fields fs n)) → HasLarger v (values_in (cut_fields fs k))) → HasLarger v (values_in (cut_fields (field m u fs) k))
    here true f (inl e) ih = record {
      value = cut u (λ d. k (m ∷ d));
      among = rw (less m [] f) (inl refl);
      smaller = record { whole = u; mask = λ d. n (m ∷ d); more = λ d. k (m ∷ d); less = λ c. less m c; is = sym e; is_more = refl };
    }
    here true f (inr i) ih = later (ih i)
    here false f i ih = later (ih i)

-- an entity that is not chosen is in no part
pub entity_gone : (k : Keep) (s : Store) (x : EntityUID) → k.chains x [] ≡ false → entity_at (part k s) x ≡ None
entity_gone k [] x h = refl
entity_gone k (e ∷ es) x h = here (k.chains e.uid []) refl (uid_eq x e.uid) refl (entity_gone k es x h)
  where
    here : (c : Bool) → k.chains e.uid [] ≡ c → (b : Bool) → uid_eq x e.uid ≡ b → entity_at (part k es) x ≡ None → entity_at (if c then cut_entity k e ∷ part k es else part k es) x ≡ None
    here true f true g ih = let t : k.chains x [] ≡ true = ap (λ z. k.chains z []) (same_uid x e.uid g) ∙ f in absurd (false≢true (sym h ∙ t))
    here true f false g ih = rw g ih
    here false f b g ih = ih

module _ (n k : Keep) (chains : (x : EntityUID) → IsLess (n.chains x) (k.chains x)) (tags : (x : EntityUID) → IsLessBelow (n.tags x) (k.tags x)) (s : Store) where
  entity_larger : (x : EntityUID) (m : Step) (v : Val) → IsIn v (step (part n s) (entity x) m) → HasLarger v (step (part k s) (entity x) m)
  entity_larger x m v h = by (cases (n.chains x []))
    where
      at : (d : StoredEntity) (l : Step) → n.chains x [] ≡ true → entity_at s x ≡ Some d → IsIn v (step (part n s) (entity x) l) → HasLarger v (step (part k s) (entity x) l)
      at d (along a) f e g =
          let here = entity_at-part n s x f ∙ ap (option_map (cut_entity n)) e in
          let there = entity_at-part k s x (chains x [] f) ∙ ap (option_map (cut_entity k)) e in
          rw there (field_larger d.attrs (n.chains d.uid) (k.chains d.uid) a (chains d.uid) v (rw here at g))
      at d any_tag f e g =
          let here = entity_at-part n s x f ∙ ap (option_map (cut_entity n)) e in
          let there = entity_at-part k s x (chains x [] f) ∙ ap (option_map (cut_entity k)) e in
          rw there (tag_larger d.tags (n.tags d.uid) (k.tags d.uid) (tags d.uid) v (rw here at g))

      none_at : (l : Step) → entity_at (part n s) x ≡ None → IsIn v (step (part n s) (entity x) l) → ⊥
      none_at (along a) e g = rw e at g
      none_at any_tag e g = rw e at g

      found : n.chains x [] ≡ true → (o : Option StoredEntity) → entity_at s x ≡ o → HasLarger v (step (part k s) (entity x) m)
      found f None e = absurd (none_at m (entity_at-part n s x f ∙ ap (option_map (cut_entity n)) e) h)
      found f (Some d) e = at d m f e h

      by : (n.chains x [] ≡ true) ⊎ (n.chains x [] ≡ false) → HasLarger v (step (part k s) (entity x) m)
      by (inl f) = found f (entity_at s x) refl
      by (inr f) = absurd (none_at m (entity_gone n s x f) h)

  step_larger : (u : Val) (a b : Chain → Bool) → IsLess a b → (m : Step) (v : Val) → IsIn v (step (part n s) (cut u a) m) → HasLarger v (step (part k s) (cut u b) m)
  step_larger (entity x) a b less m v h = entity_larger x m v h
  step_larger (rec fs) a b less (along l) v h = field_larger fs a b l less v h
  step_larger (rec fs) a b less any_tag v h = absurd h
  step_larger (truth c) a b less m v h = absurd h
  step_larger (long c) a b less m v h = absurd h
  step_larger (string c) a b less m v h = absurd h
  step_larger (set c) a b less m v h = absurd h
  step_larger (decimal c) a b less m v h = absurd h
  step_larger (ip c) a b less m v h = absurd h
  step_larger (datetime c) a b less m v h = absurd h
  step_larger (duration c) a b less m v h = absurd h

  walk_larger : (ms : List Step) (v w : Val) → IsSmaller v w → (u : Val) → IsIn u (walk (part n s) v ms) → HasLarger u (walk (part k s) w ms)
  walk_larger [] v w t u (inl e) = record { value = w; among = inl refl; smaller = subst (λ z. IsSmaller z w) e t }
  walk_larger [] v w t u (inr h) = absurd h
  walk_larger (m ∷ ms) v w t u h =
      let r = flat_map_out (λ z. walk (part n s) z ms) u (step (part n s) v m) h in
      let f = step_larger t.whole t.mask t.more t.less m r.from (subst (λ z. IsIn r.from (step (part n s) z m)) t.is r.among) in
      let g = walk_larger ms r.from f.value f.smaller u r.gives in
      record {
        value = g.value;
        among = in_flat_map (λ z. walk (part k s) z ms) f.value g.value (step (part k s) w m) (subst (λ z. IsIn f.value (step (part k s) z m)) (sym t.is_more) f.among) g.among;
        smaller = g.smaller;
      }

  pub names_larger : (q : Request) (p : AccessPath) (y : EntityUID) → list_any (names_id y) (reach (part n s) q p) ≡ true → list_any (names_id y) (reach (part k s) q p) ≡ true
  names_larger q p y h =
      let r = any_out (names_id y) (reach (part n s) q p) h in
      let v = root_value q p.root in
      let same : IsSmaller v v = record { whole = v; mask = λ c. true; more = λ c. true; less = λ c i. i; is = sym (cut_all v); is_more = sym (cut_all v) } in
      let g = walk_larger p.steps v v same r.0 r.1 in
      any_in (names_id y) g.value (reach (part k s) q p) g.among (named_more r.0 g.value y g.smaller r.2)
