-- What does not block.
use Rattle.std.proofs.Common.{◌≡◌, ◌⊎◌, ◌<◌, ◌≤◌, ◌+◌, arith, Option, Some, None, ℕ, zero, suc, Bool, true, false, List, [], ◌∷◌, length, map, drop, get_or, refl, sym, ap, ◌∙◌, subst, inl, inr, drop-cons, add-one}
use Rattle.std.specs.Prelude.{slice_get}
use Rattle.std.specs.List.{list_any}
use Rattle.std.proofs.lemmas.Bool.{or_cases}
use Rattle.policy_expressions.specs.declared.kinds.Var.TheVariants.{Principal, Action, Resource, Context}
use Rattle.entity_store.specs.declared.request.Request.{Request}
use Rattle.entity_store.specs.Store.{StoredEntity}
use Rattle.policy_values.specs.Value.{Val, truth, long, string, entity, set, rec, decimal, ip, datetime, duration, Fields, no_fields, field}
use Rattle.access_tries.specs.declared.edge.Edge.{Edge}
use Rattle.access_tries.specs.declared.edge.Edge.TheVariants.{Field, AnyTag, Root}
use Rattle.access_tries.specs.declared.edge.EntityRoot.{EntityRoot}
use Rattle.access_tries.specs.declared.edge.EntityRoot.TheVariants.{Literal, Var}
use Rattle.access_tries.specs.declared.table.Link.{Link}
use Rattle.access_tries.specs.Edges.{Address}
use Rattle.access_tries.specs.Paths.{edge_of}
use Rattle.access_tries.specs.Table.{Table, at_path, has_mark}
use Rattle.access_tries.specs.Views.{ViewData, whole, LeadsTo, LeadsNowhere}
use Rattle.reads_spec.specs.Paths.{Step, along, any_tag}
use Rattle.reads_spec.specs.Restrict.{values_in, root_value}
use Rattle.entity_loading.specs.Begun.{SomeRootBlocks}
use Rattle.entity_loading.specs.CannotGoOn.{Tests, tests_of, behind, is_step, GoesOn, MarksSome, Demands, Sticks, FieldsBlock, SomeBlocks, EntityBlocks, CannotStep}
use Rattle.entity_loading.proofs.FollowSteps.{tests_behind}
use Rattle.entity_loading.proofs.PlacePointSteps.{no_mark}

-- ---- nothing blocks where nothing leads

pub record IsNowhere (t : Tests) : Type 0 where
  pub leads : (a : Address) → t.leads a ≡ false
  pub marks : (a : Address) → t.marks a ≡ false

pub nowhere_behind : (e : Edge) (v : ViewData) → LeadsNowhere e v → IsNowhere (behind e (tests_of v))
nowhere_behind e v n = record { leads = n; marks = λ a. no_mark v.nodes v.number (e ∷ a) (n a) }

further_nowhere : (e : Edge) (t : Tests) → IsNowhere t → IsNowhere (behind e t)
further_nowhere e t n = record { leads = λ a. n.leads (e ∷ a); marks = λ a. n.marks (e ∷ a) }

none_demanded : (t : Tests) → IsNowhere t → Demands t → ⊥
none_demanded t n (r, ns, h) = let none = n.marks (Root r ∷ map edge_of ns) in cc (none, h)

none_ends : (t : Tests) → IsNowhere t → GoesOn t ⊎ Demands t → ⊥
none_ends t n (inl (k, h)) = let none = n.leads (edge_of k ∷ []) in cc (none, h)
none_ends t n (inr d) = none_demanded t n d

mutual
  pub none_block : (v : Val) (t : Tests) → IsNowhere t → (u : Val) → Sticks v t u → ⊥
  none_block (entity y) t n u h = h
  none_block (rec fs) t n u (inl (e, d)) = none_demanded t n d
  none_block (rec fs) t n u (inr h) = no_field_blocks fs t n u h
  none_block (truth b) t n u (e, h) = none_ends t n h
  none_block (long b) t n u (e, h) = none_ends t n h
  none_block (string b) t n u (e, h) = none_ends t n h
  none_block (set b) t n u (e, h) = none_ends t n h
  none_block (decimal b) t n u (e, h) = none_ends t n h
  none_block (ip b) t n u (e, h) = none_ends t n h
  none_block (datetime b) t n u (e, h) = none_ends t n h
  none_block (duration b) t n u (e, h) = none_ends t n h

  pub no_field_blocks : (fs : Fields) (t : Tests) → IsNowhere t → (u : Val) → FieldsBlock fs t u → ⊥
  no_field_blocks no_fields t n u h = h
  no_field_blocks (field k v fs) t n u (inl h) = none_block v (behind (Field k) t) (further_nowhere (Field k) t n) u h
  no_field_blocks (field k v fs) t n u (inr h) = no_field_blocks fs t n u h

pub none_of_them : (vs : List Val) (t : Tests) → IsNowhere t → (u : Val) → SomeBlocks vs t u → ⊥
none_of_them [] t n u h = h
none_of_them (v ∷ vs) t n u (inl h) = none_block v t n u h
none_of_them (v ∷ vs) t n u (inr h) = none_of_them vs t n u h

-- ---- only a context can block

pub no_other_root : (q : Request) (r : EntityRoot) (t : Tests) (u : Val) → Sticks (root_value q r) t u → r ≡ Var Context
no_other_root q (Literal y) t u h = absurd h
no_other_root q (Var Principal) t u h = absurd h
no_other_root q (Var Action) t u h = absurd h
no_other_root q (Var Resource) t u h = absurd h
no_other_root q (Var Context) t u h = refl

-- ---- links, one after another

-- a test that some link passes, and the first of those that are left does not, is passed by one behind it
pub later_link : (g : Link → Bool) (links : List Link) (k : ℕ) (l : Link) → k < length links → l ≡ get_or links k l → (g l ≡ true → ⊥) → list_any g (drop k links) ≡ true → list_any g (drop (k + 1) links) ≡ true
later_link g links k l within at none h = by (or_cases (g l) (list_any g (drop (k + 1) links)) (sym (ap (list_any g) split) ∙ h))
  where
    split : drop k links ≡ l ∷ drop (k + 1) links
    split = rw (add-one k) (drop-cons links k l within ∙ ap (λ m. m ∷ drop (suc k) links) (sym at))

    by : (g l ≡ true) ⊎ (list_any g (drop (k + 1) links) ≡ true) → list_any g (drop (k + 1) links) ≡ true
    by (inl i) = absurd (none i)
    by (inr i) = i

pub step_edge : (n : Step) → is_step (edge_of n) ≡ true
step_edge (along n) = refl
step_edge any_tag = refl

-- none is left
pub none_later : (g : Link → Bool) (links : List Link) (k : ℕ) → length links ≤ k → list_any g (drop k links) ≡ true → ⊥
none_later g [] zero h p = cc
none_later g [] (suc k) h p = cc
none_later g (l ∷ ls) zero h p = omega (arith, h)
none_later g (l ∷ ls) (suc k) h p = none_later g ls k (omega (arith, h)) p

pub root_edge : (e : Edge) → is_step e ≡ false → (r : EntityRoot) × (e ≡ Root r)
root_edge (Root r) h = (r, refl)
root_edge (Field n) h = absurd (cc)
root_edge AnyTag h = absurd (cc)

-- ---- what blocks in a whole

pub blocked_record : (fs : Fields) (t : Tests) (o : Option Val) → (Demands t → ⊥) → CannotStep (FieldsBlock fs t) o → CannotStep (Sticks (rec fs) t) o
blocked_record fs t None free h = λ u k. elim k [
  | inl d ↦ free d.1
  | inr f ↦ h u f
]
blocked_record fs t (Some u) free h = inr h

pub blocked_entity : (e : StoredEntity) (t : Tests) (o : Option Val) → ((u : Val) → FieldsBlock e.attrs t u → ⊥) → CannotStep (SomeBlocks (values_in e.tags) (behind AnyTag t)) o → CannotStep (EntityBlocks e t) o
blocked_entity e t None free h = λ u k. elim k [
  | inl f ↦ free u f
  | inr f ↦ h u f
]
blocked_entity e t (Some u) free h = inr h

-- the values of fields, one after another: where the first does not block, one of the others does
pub field_later : (n : List ℕ) (v : Val) (fs : Fields) (t : Tests) (u : Val) → (Sticks v (behind (Field n) t) u → ⊥) → FieldsBlock (field n v fs) t u → FieldsBlock fs t u
field_later n v fs t u free (inl h) = absurd (free h)
field_later n v fs t u free (inr h) = h

pub value_later : (v : Val) (vs : List Val) (t : Tests) (u : Val) → (Sticks v t u → ⊥) → SomeBlocks (v ∷ vs) t u → SomeBlocks vs t u
value_later v vs t u free (inl h) = absurd (free h)
value_later v vs t u free (inr h) = h

module _ (ns : Table) (q : Request) where
  pub blocked_root : (w : ViewData) (fs : Fields) → root_value q (Var Context) ≡ rec fs → LeadsTo (Root (Var Context)) (whole ns) w → (o : Option Val) → CannotStep (Sticks (rec fs) (tests_of w)) o → CannotStep (SomeRootBlocks ns q) o
  blocked_root w fs is l None h = λ u k.
      let same = no_other_root q k.0 (behind (Root k.0) (tests_of (whole ns))) u k.1 in
      let there : Sticks (root_value q (Var Context)) (behind (Root (Var Context)) (tests_of (whole ns))) u = subst (λ z. Sticks (root_value q z) (behind (Root z) (tests_of (whole ns))) u) same k.1 in
      h u (subst (λ v. Sticks v (tests_of w) u) is (subst (λ t. Sticks (root_value q (Var Context)) t u) (sym (tests_behind (Root (Var Context)) (whole ns) w l)) there))
  blocked_root w fs is l (Some u) h = (Var Context, subst (λ t. Sticks (root_value q (Var Context)) t u) (tests_behind (Root (Var Context)) (whole ns) w l) (subst (λ v. Sticks v (tests_of w) u) (sym is) h))

  pub no_root_blocks : LeadsNowhere (Root (Var Context)) (whole ns) → (u : Val) → SomeRootBlocks ns q u → ⊥
  no_root_blocks n u (r, k) =
      let same = no_other_root q r (behind (Root r) (tests_of (whole ns))) u k in
      let there : Sticks (root_value q (Var Context)) (behind (Root (Var Context)) (tests_of (whole ns))) u = subst (λ z. Sticks (root_value q z) (behind (Root z) (tests_of (whole ns))) u) same k in
      none_block (root_value q (Var Context)) (behind (Root (Var Context)) (tests_of (whole ns))) (nowhere_behind (Root (Var Context)) (whole ns) n) u there

-- where the node is not marked, and no step leads on to a marked one
pub no_marks : (v : ViewData) → MarksSome (tests_of v) → has_mark (slice_get v.nodes v.number) ≡ false → ((n : Step) (ns : List Step) → at_path has_mark v.nodes v.number (edge_of n ∷ map edge_of ns) ≡ true → ⊥) → ⊥
no_marks v ([], h) bare none = cc (h, bare)
no_marks v (n ∷ ns, h) bare none = none n ns h
