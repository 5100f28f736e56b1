-- What a trie holds with conditions beside it: it stays held, and is added once.
-- The plan. A condition is held by a trie, or by the list of conditions beside it that are still to be added. What was
-- taken is held from then on, and `&&` asks for what its sides ask for; so a scope and a body may be taken apart, a body of
-- a template is taken once and found again by the template's id (`held_with_new`, `body_held`), and a step of the loop
-- over policies keeps that the whole holds the same (`one_step`).
use Rattle.std.proofs.Common.{◌≡◌, ◌↔◌, ℕ, Bool, true, false, true≢false, cond, ◌||◌, List, [], ◌∷◌, ◌++◌, append_assoc, append-nil, map, Option, Some, None, IsSomeAnd, IsTrue, refl, sym, ap, ◌∙◌, subst}
use Rattle.std.specs.Prelude.{IfSome, filter, if◌then◌else◌, nat_lt, option_map}
use Rattle.std.specs.BTreeSet.{BTreeSet, contains}
use Rattle.std.specs.List.{list_any}
use Rattle.std.specs.Ordering.{is_eq}
use Rattle.std.specs.declared.alloc.Global.{Global}
use Rattle.std.specs.declared.vec.Vec.{Vec}
use Rattle.findings.specs.declared.error.ValidationError.{ValidationError}
use Rattle.std.specs.declared.cmp.Ordering.{Ordering}
use Rattle.std.specs.declared.cmp.Ordering.TheVariants.{Less, Equal, Greater}
use Rattle.std.proofs.lemmas.Map.Lookups.{exact_bytes}
use Rattle.plain_lemmas.proofs.Options.{some_injective}
use Rattle.policy_values.specs.Uid.{text_cmp}
use Rattle.policy_expressions.specs.Plain.{Plain}
use Rattle.policy_expressions.specs.Tree.{conj, depth_of, Mark}
use Rattle.access_tries.specs.Edges.{Address}
use Rattle.access_tries.specs.Paths.{address_of, demand_of, is_prefix_of, is_same}
use Rattle.access_tries.specs.Table.{Table, leads, is_marked}
use Rattle.schema_types.specs.Ty.{Ty}
use Rattle.schema_core.specs.EnvData.{EnvData}
use Rattle.schema_core.specs.Schema.{SchemaData}
use Rattle.typing_spec.specs.Typing.{Typed, unreached}
use Rattle.policy_set.specs.Data.{TemplateData, PolicyData, LinkData}
use Rattle.policy_set.specs.PolicySet.{PolicySetData, template_at, IsLinkedIn, IsLinkOf}
use Rattle.reads_spec.specs.PathTypes.{declared_part}
use Rattle.reads_spec.specs.Reads.{reads_of, reads, demands, demands_of, are_declared}
use Rattle.typecheck_rules.specs.Check.{Check, Success, Irrelevant, Fail, TooDeep, check_walked, checked, condition_walked}
use Rattle.policy_validate.specs.AcceptanceLaws.{LeavesAll}
use Rattle.policy_validate.specs.Found.{condition_in, found_conditions}
use Rattle.typecheck_walk.specs.Answer.{Reports}
use Rattle.typecheck_walk.specs.declared.policy_check.PolicyCheck.TheVariants as known
use Rattle.manifest_computation.specs.Gathered.{goes_along, asks_along, part_in, HoldSame, IsHeld, AreHeld, IsTaken}
use Rattle.manifest_computation.proofs.Additions.{goes_append, any_demand, and_then, one_taken, left_next}
use Rattle.manifest_computation.proofs.Splits.{IsSplit}

some_more : {X : Type 0} (P Q : X → Type 0) → ((x : X) → P x → Q x) → (o : Option X) → IsSomeAnd o P → IsSomeAnd o Q
some_more P Q f None h = absurd h
some_more P Q f (Some x) h = f x h

twice : (b : Bool) → (b || b) ≡ b
twice true = refl
twice false = refl

-- what is there already
absorbed : (x o c b : Bool) → (x || (o || b)) ≡ (x || o) → (x || (o || (c || b))) ≡ (x || (o || c))
absorbed true o c b h = refl
absorbed false true c b h = refl
absorbed false false true b h = refl
absorbed false false false b h = h

skipped : (x o b m : Bool) → (x || (o || b)) ≡ (x || o) → (x || (o || m)) ≡ (x || (o || (b || m)))
skipped true o b m h = refl
skipped false true b m h = refl
skipped false false b m h = ap (λ z. z || m) (sym h)

-- a question about conditions that one of them answers, beside one about each of two tries
module _ (f : List Typed → Bool) (joins : (ts us : List Typed) → f (ts ++ us) ≡ (f ts || f us)) where
  abbrev Took : Bool → Bool → List Typed → List Typed → Typed → Type 0
  Took x y ts us c = (more : List Typed) → (y || f (us ++ more)) ≡ (x || f (ts ++ c ∷ more))

  stays : (x y : Bool) (ts us : List Typed) (b c : Typed) → Took x y ts us c → (x || f (ts ++ b ∷ [])) ≡ (x || f ts) → (y || f (us ++ b ∷ [])) ≡ (y || f us)
  stays x y ts us b c took held =
      took (b ∷ [])
      ∙ ap (λ z. x || z) (joins ts (c ∷ b ∷ []) ∙ ap (λ z. f ts || z) (joins (c ∷ []) (b ∷ [])))
      ∙ absorbed x (f ts) (f (c ∷ [])) (f (b ∷ [])) (ap (λ z. x || z) (sym (joins ts (b ∷ []))) ∙ held)
      ∙ ap (λ z. x || z) (sym (joins ts (c ∷ [])))
      ∙ sym (took [])
      ∙ ap (λ zs. y || f zs) (append-nil us)

  becomes : (x y : Bool) (ts us : List Typed) (b : Typed) → Took x y ts us b → (y || f (us ++ b ∷ [])) ≡ (y || f us)
  becomes x y ts us b took =
      took (b ∷ [])
      ∙ ap (λ z. x || z) (joins ts (b ∷ b ∷ []) ∙ ap (λ z. f ts || z) (joins (b ∷ []) (b ∷ []) ∙ twice (f (b ∷ []))) ∙ sym (joins ts (b ∷ [])))
      ∙ sym (took [])
      ∙ ap (λ zs. y || f zs) (append-nil us)

  beside : (x : Bool) (ts : List Typed) (b : Typed) → (x || f (ts ++ b ∷ [])) ≡ (x || f ts) → Took x x ts ts b
  beside x ts b held more =
      ap (λ z. x || z) (joins ts more)
      ∙ skipped x (f ts) (f (b ∷ [])) (f more) (ap (λ z. x || z) (sym (joins ts (b ∷ []))) ∙ held)
      ∙ ap (λ z. x || z) (ap (λ z. f ts || z) (sym (joins (b ∷ []) more)) ∙ sym (joins ts (b ∷ more)))

module _ (schema : SchemaData) (env : EnvData) where
  goes : (es : Address) (ts us : List Typed) → goes_along schema env (ts ++ us) es ≡ (goes_along schema env ts es || goes_along schema env us es)
  goes es ts us = goes_append schema env es ts us

  asks : (es : Address) (ts us : List Typed) → asks_along schema env (ts ++ us) es ≡ (asks_along schema env ts es || asks_along schema env us es)
  asks es ts us = any_demand schema env (is_same es) ts us

  stays_held : (t u : Table) (ts us : List Typed) (b c : Typed) → IsTaken schema env u us t ts c → IsHeld schema env t ts b → IsHeld schema env u us b
  stays_held t u ts us b c took held = record {
    paths = λ es. stays (λ vs. goes_along schema env vs es) (goes es) (leads t es) (leads u es) ts us b c (λ more. (took more).paths es) (held.paths es);
    marks = λ es. stays (λ vs. asks_along schema env vs es) (asks es) (is_marked t es) (is_marked u es) ts us b c (λ more. (took more).marks es) (held.marks es);
  }

  -- what was taken is held
  pub taken_held : (t u : Table) (ts us : List Typed) (b : Typed) → IsTaken schema env u us t ts b → IsHeld schema env u us b
  taken_held t u ts us b took = record {
    paths = λ es. becomes (λ vs. goes_along schema env vs es) (goes es) (leads t es) (leads u es) ts us b (λ more. (took more).paths es);
    marks = λ es. becomes (λ vs. asks_along schema env vs es) (asks es) (is_marked t es) (is_marked u es) ts us b (λ more. (took more).marks es);
  }

  -- what is held need not be taken
  pub held_taken : (t : Table) (ts : List Typed) (b : Typed) → IsHeld schema env t ts b → IsTaken schema env t ts t ts b
  held_taken t ts b held more = record {
    paths = λ es. beside (λ vs. goes_along schema env vs es) (goes es) (leads t es) ts b (held.paths es) more;
    marks = λ es. beside (λ vs. asks_along schema env vs es) (asks es) (is_marked t es) ts b (held.marks es) more;
  }

  -- `&&` reads and asks for what its sides do
  conj_goes : (es : Address) (s b : Typed) (m : Mark (Option Ty)) (ts : List Typed) → goes_along schema env (conj s b m ∷ ts) es ≡ goes_along schema env (s ∷ b ∷ ts) es
  conj_goes es s b m ts =
      λ i. list_any (is_prefix_of es) (map address_of (map (declared_part schema env) (append_assoc (reads schema env s) (reads schema env b) (reads_of schema env ts) i)))
      || list_any (is_prefix_of es) (map demand_of (filter (are_declared schema env) (append_assoc (demands s) (demands b) (demands_of ts) i)))

  conj_asks : (es : Address) (s b : Typed) (m : Mark (Option Ty)) (ts : List Typed) → asks_along schema env (conj s b m ∷ ts) es ≡ asks_along schema env (s ∷ b ∷ ts) es
  conj_asks es s b m ts = λ i. list_any (is_same es) (map demand_of (filter (are_declared schema env) (append_assoc (demands s) (demands b) (demands_of ts) i)))

  left_goes : (es : Address) (s : Typed) (m : Mark (Option Ty)) (ts : List Typed) → goes_along schema env (conj s unreached m ∷ ts) es ≡ goes_along schema env (s ∷ ts) es
  left_goes es s m ts =
      λ i. list_any (is_prefix_of es) (map address_of (map (declared_part schema env) (append-nil (reads schema env s) i ++ reads_of schema env ts)))
      || list_any (is_prefix_of es) (map demand_of (filter (are_declared schema env) (append-nil (demands s) i ++ demands_of ts)))

  left_asks : (es : Address) (s : Typed) (m : Mark (Option Ty)) (ts : List Typed) → asks_along schema env (conj s unreached m ∷ ts) es ≡ asks_along schema env (s ∷ ts) es
  left_asks es s m ts = λ i. list_any (is_same es) (map demand_of (filter (are_declared schema env) (append-nil (demands s) i ++ demands_of ts)))

  behind_same : (t : Table) (old us vs : List Typed) → ((es : Address) → goes_along schema env vs es ≡ goes_along schema env us es) → ((es : Address) → asks_along schema env vs es ≡ asks_along schema env us es) →
      HoldSame schema env t (old ++ us) t (old ++ vs)
  behind_same t old us vs h k = record {
    paths = λ es. ap (λ z. leads t es || z) (goes es old us ∙ ap (λ z. goes_along schema env old es || z) (sym (h es)) ∙ sym (goes es old vs));
    marks = λ es. ap (λ z. is_marked t es || z) (asks es old us ∙ ap (λ z. asks_along schema env old es || z) (sym (k es)) ∙ sym (asks es old vs));
  }

  both_taken : (t u v : Table) (ts us vs : List Typed) (s b : Typed) (m : Mark (Option Ty)) → IsTaken schema env u us t ts s → IsTaken schema env v vs u us b → IsTaken schema env v vs t ts (conj s b m)
  both_taken t u v ts us vs s b m h k more =
      and_then schema env v u t (vs ++ more) (us ++ b ∷ more) (ts ++ conj s b m ∷ more) (k more)
      (and_then schema env u t t (us ++ b ∷ more) (ts ++ s ∷ b ∷ more) (ts ++ conj s b m ∷ more) (h (b ∷ more))
      (behind_same t ts (s ∷ b ∷ more) (conj s b m ∷ more) (λ es. conj_goes es s b m more) (λ es. conj_asks es s b m more)))

  left_taken : (t u : Table) (ts us : List Typed) (s : Typed) (m : Mark (Option Ty)) → IsTaken schema env u us t ts s → IsTaken schema env u us t ts (conj s unreached m)
  left_taken t u ts us s m h more =
      and_then schema env u t t (us ++ more) (ts ++ s ∷ more) (ts ++ conj s unreached m ∷ more) (h more)
      (behind_same t ts (s ∷ more) (conj s unreached m ∷ more) (λ es. left_goes es s m more) (λ es. left_asks es s m more))

  -- a scope that is not met, one that fails, and one behind which the body fails or is taken
  pub unmet_taken : (id : List ℕ) (c : Check) (s : Typed) → Reports id c (known.Irrelevant s) → (b o : Option Typed) → IsSplit c b o → (t u : Table) (ts us : List Typed) → IsTaken schema env u us t ts s →
      IsSomeAnd o (IsTaken schema env u us t ts)
  unmet_taken id (Irrelevant r) s h b o split t u ts us took =
      subst (λ z. IsSomeAnd z (IsTaken schema env u us t ts)) (sym split.1) (left_taken t u ts us r split.0 (subst (IsTaken schema env u us t ts) h took))
  unmet_taken id c s h b o split t u ts us took = absurd h

  pub met_taken : (id : List ℕ) (c : Check) (s : Typed) → Reports id c (known.Success s) → (b o : Option Typed) → IsSplit c b o → (t u v : Table) (ts us vs : List Typed) → IsTaken schema env u us t ts s →
      IsSomeAnd b (IsTaken schema env v vs u us) → IsSomeAnd o (IsTaken schema env v vs t ts)
  met_taken id (Success r) s h None o split t u v ts us vs took more = absurd more
  met_taken id (Success r) s h (Some b) o split t u v ts us vs took more =
      subst (λ z. IsSomeAnd z (IsTaken schema env v vs t ts)) (sym split.1) (both_taken t u v ts us vs r b split.0 (subst (IsTaken schema env u us t ts) h took) more)
  met_taken id c s h b o split t u v ts us vs took more = absurd h

  -- the bodies of templates stay held
  pub held_after : (s : PolicySetData) (ids : BTreeSet (List ℕ)) (t u : Table) (ts us : List Typed) (c : Typed) → IsTaken schema env u us t ts c → AreHeld schema env s ids t ts → AreHeld schema env s ids u us
  held_after s ids t u ts us c took held id among =
      some_more (λ w. IsSomeAnd (part_in schema env w.body) (IsHeld schema env t ts)) (λ w. IsSomeAnd (part_in schema env w.body) (IsHeld schema env u us))
      (λ w. some_more (IsHeld schema env t ts) (IsHeld schema env u us) (λ b. stays_held t u ts us b c took) (part_in schema env w.body)) (template_at s id) (held id among)

  -- a link's body is its template's
  abbrev IsBodyAt : PolicySetData → List ℕ → Plain → Type 0
  IsBodyAt s id e = IsSomeAnd (template_at s id) (λ w. e ≡ w.body)

  pub body_at : (s : PolicySetData) (p : PolicyData) (id : List ℕ) → IsLinkedIn s p → Some id ≡ option_map (λ l. l.template) p.link → IsBodyAt s id p.body
  body_at s p id linked is = by p.link linked is
    where
      by : (o : Option LinkData) → IfSome o (λ l. IsSomeAnd (template_at s l.template) (IsLinkOf p l.values)) → Some id ≡ option_map (λ l. l.template) o → IsBodyAt s id p.body
      by None h k = absurd (cc k)
      by (Some l) h k =
          subst (λ i. IsBodyAt s i p.body) (sym (some_injective k))
          (some_more (IsLinkOf p l.values) (λ w. p.body ≡ w.body) (λ w q. ap (λ (x : PolicyData). x.body) q.1) (template_at s l.template) h)

  pub body_held : (s : PolicySetData) (ids : BTreeSet (List ℕ)) (t : Table) (ts : List Typed) → AreHeld schema env s ids t ts → (id : List ℕ) → IsTrue (contains text_cmp ids id) → (e : Plain) → IsBodyAt s id e →
      IsSomeAnd (part_in schema env e) (IsTaken schema env t ts t ts)
  body_held s ids t ts held id among e is = by (template_at s id) (held id among) is
    where
      by : (o : Option TemplateData) → IsSomeAnd o (λ w. IsSomeAnd (part_in schema env w.body) (IsHeld schema env t ts)) → IsSomeAnd o (λ w. e ≡ w.body) → IsSomeAnd (part_in schema env e) (IsTaken schema env t ts t ts)
      by None h k = absurd h
      by (Some w) h k =
          some_more (IsHeld schema env t ts) (IsTaken schema env t ts t ts) (held_taken t ts) (part_in schema env e) (subst (λ x. IsSomeAnd (part_in schema env x) (IsHeld schema env t ts)) (sym k) h)

  -- a body that was taken is held from then on
  pub held_with : (s : PolicySetData) (ids : BTreeSet (List ℕ)) (t u : Table) (ts us : List Typed) → AreHeld schema env s ids t ts → (o : Option Typed) → IsSomeAnd o (IsTaken schema env u us t ts) → AreHeld schema env s ids u us
  held_with s ids t u ts us held None h = absurd h
  held_with s ids t u ts us held (Some c) h = held_after s ids t u ts us c h held

  held_more : (s : PolicySetData) (ids more : BTreeSet (List ℕ)) (t : Table) (ts : List Typed) (id : List ℕ) → ((q : List ℕ) → contains text_cmp more q ≡ cond (is_eq (text_cmp id q)) true (contains text_cmp ids q)) →
      (e : Plain) → IsBodyAt s id e → IsSomeAnd (part_in schema env e) (IsHeld schema env t ts) → AreHeld schema env s ids t ts → AreHeld schema env s more t ts
  held_more s ids more t ts id updates e is left held q among = by (text_cmp id q) refl (sym (updates q) ∙ among)
    where
      here : IsSomeAnd (template_at s id) (λ w. IsSomeAnd (part_in schema env w.body) (IsHeld schema env t ts))
      here = some_more (λ w. e ≡ w.body) (λ w. IsSomeAnd (part_in schema env w.body) (IsHeld schema env t ts)) (λ w k. subst (λ x. IsSomeAnd (part_in schema env x) (IsHeld schema env t ts)) k left) (template_at s id) is

      by : (o : Ordering) → text_cmp id q ≡ o → cond (is_eq o) true (contains text_cmp ids q) ≡ true → IsSomeAnd (template_at s q) (λ w. IsSomeAnd (part_in schema env w.body) (IsHeld schema env t ts))
      by Equal k h = subst (λ i. IsSomeAnd (template_at s i) (λ w. IsSomeAnd (part_in schema env w.body) (IsHeld schema env t ts))) (exact_bytes id q k) here
      by Less k h = held q h
      by Greater k h = held q h

  pub held_with_new : (s : PolicySetData) (ids more : BTreeSet (List ℕ)) (t u : Table) (ts us : List Typed) (id : List ℕ) → ((q : List ℕ) → contains text_cmp more q ≡ cond (is_eq (text_cmp id q)) true (contains text_cmp ids q)) →
      (e : Plain) → IsBodyAt s id e → AreHeld schema env s ids t ts → IsSomeAnd (part_in schema env e) (IsTaken schema env u us t ts) → AreHeld schema env s more u us
  held_with_new s ids more t u ts us id updates e is held took =
      held_more s ids more u us id updates e is (some_more (IsTaken schema env u us t ts) (IsHeld schema env u us) (taken_held t u ts us) (part_in schema env e) took)
      (held_with s ids t u ts us held (part_in schema env e) took)

  -- without templates nothing is held
  pub none_held : (s : PolicySetData) (ids : BTreeSet (List ℕ)) → ids.keys ≡ [] → (t : Table) (ts : List Typed) → AreHeld schema env s ids t ts
  none_held s ids none t ts id among = absurd (true≢false (sym among ∙ ap (list_any (λ k. is_eq (text_cmp id k))) none))

  pub too_deep : (e : Plain) → nat_lt 200 (depth_of e) ≡ true → condition_in (checked schema env e) ≡ None
  too_deep e h = ap (λ b. condition_in (if b then TooDeep else check_walked (condition_walked schema env e))) h

  -- a step of the loop
  pub one_step : (it rest : List PolicyData) (p : PolicyData) → it ≡ p ∷ rest → (t u : Table) (old new all : List Typed) (ps : List PolicyData) → HoldSame schema env t (old ++ found_conditions schema env it) [] all →
      (LeavesAll schema it env ↔ LeavesAll schema ps env) → IsSomeAnd (condition_in (checked schema env p.condition)) (IsTaken schema env u new t old) →
      HoldSame schema env u (new ++ found_conditions schema env rest) [] all × (LeavesAll schema rest env ↔ LeavesAll schema ps env)
  one_step it rest p is t u old new all ps same left took = by (condition_in (checked schema env p.condition)) refl took
    where
      by : (o : Option Typed) → condition_in (checked schema env p.condition) ≡ o → IsSomeAnd o (IsTaken schema env u new t old) →
          HoldSame schema env u (new ++ found_conditions schema env rest) [] all × (LeavesAll schema rest env ↔ LeavesAll schema ps env)
      by None e h = absurd h
      by (Some c) e h = (one_taken schema env it rest p is c e t u old new all same h, left_next schema env it rest p is c e ps left)

-- where its scope fails, or its body does behind one that may be met, nothing is left of a condition
pub scope_fails : (id : List ℕ) (c : Check) (es : Vec ValidationError Global) → Reports id c (known.Fail es) → (b o : Option Typed) → IsSplit c b o → o ≡ None
scope_fails id (Fail fs) es h b o split = split
scope_fails id TooDeep es h b o split = split
scope_fails id c es h b o split = absurd h

pub body_fails : (id : List ℕ) (c : Check) (s : Typed) → Reports id c (known.Success s) → (b o : Option Typed) → b ≡ None → IsSplit c b o → o ≡ None
body_fails id (Success r) s h None o none split = split
body_fails id (Success r) s h (Some b) o none split = absurd (cc none)
body_fails id c s h b o none split = absurd h
