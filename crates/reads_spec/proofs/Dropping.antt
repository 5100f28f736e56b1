-- What is not declared leads to nothing, so that without it as much is kept.
use Rattle.std.proofs.Common.{◌≡◌, ℕ, Bool, true, false, ◌&&◌, ◌||◌, List, [], ◌∷◌, map, Option, Some, None, refl, sym, ap, ◌∙◌, subst, inl, inr}
use Rattle.std.specs.Prelude.{is_some, filter, if◌then◌else◌}
use Rattle.std.specs.List.{AllByRecursion, list_any}
use Rattle.std.proofs.lemmas.Bool.{and_parts, and_from}
use Rattle.policy_values.specs.declared.entity_uid.EntityUID.{EntityUID}
use Rattle.policy_values.specs.Value.{Val, entity as id, rec, Fields, no_fields, field}
use Rattle.entity_store.specs.declared.request.Request.{Request}
use Rattle.entity_store.specs.Store.{StoredEntity, Store}
use Rattle.type_relations.specs.Attributes.{or_none}
use Rattle.schema_types.specs.Attrs.{attr_at}
use Rattle.schema_types.specs.declared.ty.AttributeType.{AttributeType}
use Rattle.schema_types.specs.Ty.{Ty, record_of, entity, Attrs}
use Rattle.schema_core.specs.EnvData.{EnvData}
use Rattle.schema_core.specs.Schema.{SchemaData}
use Rattle.reads_spec.specs.Paths.{Root, Step, any_tag, Chain, steps_of, AccessPath, Demand, has_step}
use Rattle.typing_spec.specs.Environment.{declared_attributes, declared_tags}
use Rattle.reads_spec.specs.PathTypes.{step_on, is_declared, declared_steps, root_type, is_declared_path, declared_part}
use Rattle.reads_spec.specs.Reads.{are_declared}
use Rattle.reads_spec.specs.Restrict.{Keep, cut, cut_fields, cut_entity, part, same_step, is_prefix, is_id, names_id, root_value, step, walk, reach, keeps, kept_steps, by_paths, kept_ancestor, needed, restrict}
use Rattle.reads_spec.specs.Cover.{KeepsTypes}
use Rattle.reads_spec.proofs.Lists.{IsIn, any_in, flat_map_out}
use Rattle.reads_spec.proofs.Cuts.{uid_at, all_at, keeps_here}
use Rattle.reads_spec.proofs.Fitting.{Fits, FitFields, FitAll, EntityFits, FitsThere, step_fits, step_undeclared, all_fit, root_fits}
use Rattle.reads_spec.proofs.Words.{step_same, id_of, any_out}
use Rattle.plain_lemmas.proofs.Booleans.{or_false, or_left_true, or_right_true}

pub any_alike : {X : Type 0} (f g : X → Bool) (xs : List X) → ((x : X) → IsIn x xs → f x ≡ g x) → list_any f xs ≡ list_any g xs
any_alike f g [] h = refl
any_alike f g (x ∷ xs) h = λ i. h x (inl refl) i || any_alike f g xs (λ y j. h y (inr j)) i

any_filtered : {X : Type 0} (f p : X → Bool) (xs : List X) → ((x : X) → IsIn x xs → f x ≡ true → p x ≡ true) → list_any f (filter p xs) ≡ list_any f xs
any_filtered f p [] h = refl
any_filtered f p (x ∷ xs) h = here (p x) refl (f x) refl (any_filtered f p xs (λ y i. h y (inr i)))
  where
    here : (b : Bool) → p x ≡ b → (c : Bool) → f x ≡ c → list_any f (filter p xs) ≡ list_any f xs → list_any f (if b then x ∷ filter p xs else filter p xs) ≡ (c || list_any f xs)
    here true e c g ih = λ i. g i || ih i
    here false e false g ih = ih
    here false e true g ih = let k = h x (inl refl) g in absurd (cc)

-- a declared beginning is one of the declared part too
prefix_declared : (d : SchemaData) (o : Option Ty) (cs ns : List Step) → is_declared d o cs ≡ true → is_prefix cs (declared_steps d o ns) ≡ is_prefix cs ns
prefix_declared d o [] ns h = refl
prefix_declared d o (c ∷ cs) [] h = refl
prefix_declared d o (c ∷ cs) (n ∷ ns) h = here (step_on d o n) refl (same_step c n) refl (λ r i. prefix_declared d r cs ns i)
  where
    declared : is_some (step_on d o c) ≡ true
    declared = (and_parts (is_some (step_on d o c)) (is_declared d (step_on d o c) cs) h).0

    rest : is_declared d (step_on d o c) cs ≡ true
    rest = (and_parts (is_some (step_on d o c)) (is_declared d (step_on d o c) cs) h).1

    here : (t : Option Ty) → step_on d o n ≡ t → (b : Bool) → same_step c n ≡ b → ((r : Option Ty) → is_declared d r cs ≡ true → is_prefix cs (declared_steps d r ns) ≡ is_prefix cs ns) → is_prefix (c ∷ cs) (if is_some t then n ∷ declared_steps d t ns else []) ≡ (b && is_prefix cs ns)
    here None e true f ih = let g : is_some (step_on d o c) ≡ false = ap (λ m. is_some (step_on d o m)) (step_same c n f) ∙ ap is_some e in absurd (cc (g, declared))
    here None e false f ih = refl
    here (Some t) e true f ih = rw f (ih (Some t) (subst (λ r. is_declared d r cs ≡ true) (ap (step_on d o) (step_same c n f) ∙ e) rest))
    here (Some t) e false f ih = rw f refl

-- steps from an id are declared as from its type
declared_alike : (d : SchemaData) (o : Option Ty) (x : EntityUID) (cs : List Step) → Fits d o (id x) → is_declared d o cs ≡ is_declared d (Some (entity (x.entity_type ∷ []))) cs
declared_alike d o x [] h = refl
declared_alike d o x (c ∷ cs) h = ap (λ t. is_some t && is_declared d t cs) (h c)

module _ (d : SchemaData) (s : Store) where
  -- each entity that steps from a value stand on fits
  abbrev AlongFits : List Step → Val → Type 0
  AlongFits ns v = (y : EntityUID) → keeps s y [] ns v ≡ true → FitsThere d s (id y)

  first_fits : (ns : List Step) (v : Val) → AlongFits ns v → FitsThere d s v
  first_fits ns (id x) at = at x (keeps_here s x [] ns [] (id x) (inl refl))
  first_fits ns v at = tt

  next_fits : (n : Step) (ns : List Step) (v w : Val) → AlongFits (n ∷ ns) v → IsIn w (step s v n) → AlongFits ns w
  next_fits n ns v w at i y k = at y (or_right_true (is_id y v && is_prefix [] (n ∷ ns)) (list_any (keeps s y [] ns) (step s v n)) (any_in (keeps s y [] ns) w (step s v n) i k))

  -- what lies at the end of a path is declared there
  walk_declared : (ns : List Step) (o : Option Ty) (v w : Val) → AlongFits ns v → Fits d o v → IsIn w (walk s v ns) → is_declared d o ns ≡ true
  walk_declared [] o v w at h i = refl
  walk_declared (n ∷ ns) o v w at h i =
      let r = flat_map_out (λ u. walk s u ns) w (step s v n) i in
      let own = first_fits (n ∷ ns) v at in
      and_from (is_some (step_on d o n)) (is_declared d (step_on d o n) ns) (here (step_on d o n) refl r.from r.among) (walk_declared ns (step_on d o n) r.from w (next_fits n ns v r.from at r.among) (step_fits d s o v r.from n own h r.among) r.gives)
    where
      here : (t : Option Ty) → step_on d o n ≡ t → (u : Val) → IsIn u (step s v n) → is_some t ≡ true
      here (Some t) e u j = refl
      here None e u j = absurd (subst (IsIn u) (step_undeclared d s o v n (first_fits (n ∷ ns) v at) h e) j)

  -- a path without steps is declared
  reach_declared : (g : EnvData) (q : Request) → ((r : Root) → Fits d (root_type d g r) (root_value q r)) → (p : AccessPath) → (has_step p ≡ true → AlongFits p.steps (root_value q p.root)) → (f : Val → Bool) → list_any f (reach s q p) ≡ true → is_declared_path d g p ≡ true
  reach_declared g q roots p at f h = let a = any_out f (reach s q p) h in here p.steps (λ k. at k) a.0 a.1
    where
      here : (ns : List Step) → (has_step (record { root = p.root; steps = ns }) ≡ true → AlongFits ns (root_value q p.root)) → (w : Val) → IsIn w (walk s (root_value q p.root) ns) → is_declared d (root_type d g p.root) ns ≡ true
      here [] at w i = refl
      here (n ∷ ns) at w i = walk_declared (n ∷ ns) (root_type d g p.root) (root_value q p.root) w (at refl) (roots p.root) i

  -- the declared part of a path keeps the same declared steps
  keeps_declared : (x : EntityUID) (cs : List Step) → is_declared d (Some (entity (x.entity_type ∷ []))) cs ≡ true → (ns : List Step) (o : Option Ty) (v : Val) → AlongFits (declared_steps d o ns) v → Fits d o v → keeps s x cs (declared_steps d o ns) v ≡ keeps s x cs ns v
  keeps_declared x cs k [] o v at h = refl
  keeps_declared x cs k (n ∷ ns) o v at h = here (step_on d o n) refl (first (is_id x v) refl) (λ some w i. keeps_declared x cs k ns (step_on d o n) w (next_fits n (declared_steps d (step_on d o n) ns) v w (goes_on some) i) (step_fits d s o v w n own h i))
    where
      own : FitsThere d s v
      own = first_fits (declared_steps d o (n ∷ ns)) v at

      goes_on : is_some (step_on d o n) ≡ true → AlongFits (n ∷ declared_steps d (step_on d o n) ns) v
      goes_on some = subst (λ (b : Bool). AlongFits (if b then n ∷ declared_steps d (step_on d o n) ns else []) v) some at

      first : (b : Bool) → is_id x v ≡ b → (is_id x v && is_prefix cs (declared_steps d o (n ∷ ns))) ≡ (is_id x v && is_prefix cs (n ∷ ns))
      first true e = ap (λ p. is_id x v && p) (prefix_declared d o cs (n ∷ ns) (declared_alike d o x cs (subst (Fits d o) (id_of v x e) h) ∙ k))
      first false e = rw e refl

      here : (t : Option Ty) → step_on d o n ≡ t → (is_id x v && is_prefix cs (if is_some (step_on d o n) then n ∷ declared_steps d (step_on d o n) ns else [])) ≡ (is_id x v && is_prefix cs (n ∷ ns)) → (is_some (step_on d o n) ≡ true → (w : Val) → IsIn w (step s v n) → keeps s x cs (declared_steps d (step_on d o n) ns) w ≡ keeps s x cs ns w) → keeps s x cs (if is_some (step_on d o n) then n ∷ declared_steps d (step_on d o n) ns else []) v ≡ keeps s x cs (n ∷ ns) v
      here None e f ih = rw e (rw e at f ∙ sym (or_false (is_id x v && is_prefix cs (n ∷ ns))) ∙ ap (λ ws. (is_id x v && is_prefix cs (n ∷ ns)) || list_any (keeps s x cs ns) ws) (sym (step_undeclared d s o v n own h e)))
      here (Some t) e f ih = rw e (λ i. (rw e at f) i || any_alike (keeps s x cs (declared_steps d (Some t) ns)) (keeps s x cs ns) (step s v n) ((rw e at ih) refl) i)

  -- each entity that paths stand on fits
  abbrev ReachedFits : List AccessPath → Request → Type 0
  ReachedFits ps q = (y : EntityUID) → kept_steps ps q s y [] ≡ true → FitsThere d s (id y)

  kept_declared : (g : EnvData) (q : Request) → ((r : Root) → Fits d (root_type d g r) (root_value q r)) → (ps : List AccessPath) → ReachedFits (map (declared_part d g) ps) q → (x : EntityUID) (cs : List Step) → is_declared d (Some (entity (x.entity_type ∷ []))) cs ≡ true → kept_steps (map (declared_part d g) ps) q s x cs ≡ kept_steps ps q s x cs
  kept_declared g q roots [] at x cs k = refl
  kept_declared g q roots (p ∷ ps) at x cs k =
      let first : AlongFits (declared_steps d (root_type d g p.root) p.steps) (root_value q p.root) = λ y h. at y (or_left_true _ (kept_steps (map (declared_part d g) ps) q s y []) h) in
      let rest : ReachedFits (map (declared_part d g) ps) q = λ y h. at y (or_right_true (keeps s y [] (declared_steps d (root_type d g p.root) p.steps) (root_value q p.root)) _ h) in
      λ i. keeps_declared x cs k p.steps (root_type d g p.root) (root_value q p.root) first (roots p.root) i || kept_declared g q roots ps rest x cs k i

-- choices that agree on what is declared cut alike
module _ (d : SchemaData) where
  mutual
    cut_alike : (o : Option Ty) (v : Val) (k l : Chain → Bool) → Fits d o v → ((c : Chain) → is_declared d o (steps_of c) ≡ true → k c ≡ l c) → cut v k ≡ cut v l
    cut_alike (Some (record_of xs p)) (rec fs) k l h f = ap rec (cut_fields_alike xs fs k l h (λ n a e c i. f (n ∷ c) (rw e i)))
    cut_alike o (rec fs) k l h f = absurd h
    cut_alike o v k l h f = refl

    cut_fields_alike : (xs : Attrs) (fs : Fields) (k l : Chain → Bool) → FitFields d xs fs → ((n : List ℕ) (a : AttributeType) → attr_at xs n ≡ Some a → (c : Chain) → is_declared d (Some a.attr_type) (steps_of c) ≡ true → k (n ∷ c) ≡ l (n ∷ c)) → cut_fields fs k ≡ cut_fields fs l
    cut_fields_alike xs no_fields k l h f = refl
    cut_fields_alike xs (field n v fs) k l h f =
        let e = f n h.0.0 h.0.1 [] refl in
        let w = cut_alike (Some h.0.0.attr_type) v (λ c. k (n ∷ c)) (λ c. l (n ∷ c)) h.0.2 (λ c i. f n h.0.0 h.0.1 c i) in
        λ i. if e i then field n (w i) (cut_fields_alike xs fs k l h.1 f i) else cut_fields_alike xs fs k l h.1 f i

  cut_tags_alike : (t : Ty) (fs : Fields) (k l : Chain → Bool) → FitAll d (Some t) fs → ((n : List ℕ) (c : Chain) → is_declared d (Some t) (steps_of c) ≡ true → k (n ∷ c) ≡ l (n ∷ c)) → cut_fields fs k ≡ cut_fields fs l
  cut_tags_alike t no_fields k l h f = refl
  cut_tags_alike t (field n v fs) k l h f =
      let e = f n [] refl in
      let w = cut_alike (Some t) v (λ c. k (n ∷ c)) (λ c. l (n ∷ c)) h.0 (λ c i. f n c i) in
      λ i. if e i then field n (w i) (cut_tags_alike t fs k l h.1 f i) else cut_tags_alike t fs k l h.1 f i

  module _ (k l : Keep)
      (chains : (x : EntityUID) (c : Chain) → is_declared d (Some (entity (x.entity_type ∷ []))) (steps_of c) ≡ true → k.chains x c ≡ l.chains x c)
      (tags : (x : EntityUID) (n : List ℕ) (c : Chain) → is_declared d (Some (entity (x.entity_type ∷ []))) (any_tag ∷ steps_of c) ≡ true → k.tags x (n ∷ c) ≡ l.tags x (n ∷ c))
      (ancestors : (x y : EntityUID) → k.ancestors x y ≡ l.ancestors x y) where
    attrs_alike : (e : StoredEntity) → EntityFits d e → cut_fields e.attrs (k.chains e.uid) ≡ cut_fields e.attrs (l.chains e.uid)
    attrs_alike e h = cut_fields_alike (or_none (declared_attributes d e.uid.entity_type)) e.attrs (k.chains e.uid) (l.chains e.uid) h.0 (λ n a f c i. chains e.uid (n ∷ c) (rw f i))

    tags_alike : (e : StoredEntity) → EntityFits d e → cut_fields e.tags (k.tags e.uid) ≡ cut_fields e.tags (l.tags e.uid)
    tags_alike e h = here (declared_tags d e.uid.entity_type) refl e.tags h.1
      where
        here : (o : Option Ty) → declared_tags d e.uid.entity_type ≡ o → (fs : Fields) → FitAll d o fs → cut_fields fs (k.tags e.uid) ≡ cut_fields fs (l.tags e.uid)
        here None f no_fields h = refl
        here None f (field n v fs) h = absurd h
        here (Some t) f fs h = cut_tags_alike t fs (k.tags e.uid) (l.tags e.uid) h (λ n c i. tags e.uid n c (rw f i))

    part_alike : (es : Store) → AllByRecursion (λ e. k.chains e.uid [] ≡ true → EntityFits d e) es → part k es ≡ part l es
    part_alike [] h = refl
    part_alike (e ∷ es) h = here (k.chains e.uid []) refl (part_alike es h.1)
      where
        c : k.chains e.uid [] ≡ l.chains e.uid []
        c = chains e.uid [] refl

        up : filter (k.ancestors e.uid) e.ancestors ≡ filter (l.ancestors e.uid) e.ancestors
        up = ap (λ p. filter p e.ancestors) (λ i y. ancestors e.uid y i)

        here : (b : Bool) → k.chains e.uid [] ≡ b → part k es ≡ part l es → (if b then cut_entity k e ∷ part k es else part k es) ≡ (if l.chains e.uid [] then cut_entity l e ∷ part l es else part l es)
        here true f r = let g : l.chains e.uid [] ≡ true = sym c ∙ f in let a = attrs_alike e (h.0 f) in let t = tags_alike e (h.0 f) in rw g (λ i. record { uid = e.uid; attrs = a i; ancestors = up i; tags = t i } ∷ r i)
        here false f r = let g : l.chains e.uid [] ≡ false = sym c ∙ f in rw g r

  -- a part fits as the whole does
  mutual
    cut_fits : (o : Option Ty) (v : Val) (k : Chain → Bool) → Fits d o v → Fits d o (cut v k)
    cut_fits (Some (record_of xs p)) (rec fs) k h = cut_fields_fit xs fs k h
    cut_fits o (rec fs) k h = absurd h
    cut_fits o v k h = h

    cut_fields_fit : (xs : Attrs) (fs : Fields) (k : Chain → Bool) → FitFields d xs fs → FitFields d xs (cut_fields fs k)
    cut_fields_fit xs no_fields k h = tt
    cut_fields_fit xs (field n v fs) k h = here (k (n ∷ [])) (cut_fits (Some h.0.0.attr_type) v (λ c. k (n ∷ c)) h.0.2) (cut_fields_fit xs fs k h.1)
      where
        here : (b : Bool) → Fits d (Some h.0.0.attr_type) (cut v (λ c. k (n ∷ c))) → FitFields d xs (cut_fields fs k) → FitFields d xs (if b then field n (cut v (λ c. k (n ∷ c))) (cut_fields fs k) else cut_fields fs k)
        here true f r = ((h.0.0, h.0.1, f), r)
        here false f r = r

  cut_all_fit : (o : Option Ty) (fs : Fields) (k : Chain → Bool) → FitAll d o fs → FitAll d o (cut_fields fs k)
  cut_all_fit o no_fields k h = tt
  cut_all_fit None (field n v fs) k h = absurd h
  cut_all_fit (Some t) (field n v fs) k h = here (k (n ∷ [])) (cut_fits (Some t) v (λ c. k (n ∷ c)) h.0) (cut_all_fit (Some t) fs k h.1)
    where
      here : (b : Bool) → Fits d (Some t) (cut v (λ c. k (n ∷ c))) → FitAll d (Some t) (cut_fields fs k) → FitAll d (Some t) (if b then field n (cut v (λ c. k (n ∷ c))) (cut_fields fs k) else cut_fields fs k)
      here true f r = (f, r)
      here false f r = r

  part_fits : (k : Keep) (es : Store) → AllByRecursion (λ e. k.chains e.uid [] ≡ true → EntityFits d e) es → AllByRecursion (EntityFits d) (part k es)
  part_fits k [] h = tt
  part_fits k (e ∷ es) h = here (k.chains e.uid []) refl (part_fits k es h.1)
    where
      here : (b : Bool) → k.chains e.uid [] ≡ b → AllByRecursion (EntityFits d) (part k es) → AllByRecursion (EntityFits d) (if b then cut_entity k e ∷ part k es else part k es)
      here true f r = let fits = h.0 f in ((cut_fields_fit (or_none (declared_attributes d e.uid.entity_type)) e.attrs (k.chains e.uid) fits.0, cut_all_fit (declared_tags d e.uid.entity_type) e.tags (k.tags e.uid) fits.1), r)
      here false f r = r

-- each path of a demand is read, where it has a step
abbrev pub AreDemandsRead : List AccessPath → List Demand → Type 0
AreDemandsRead ps ds = (e : Demand) → IsIn e ds → (has_step e.0 ≡ true → IsIn e.0 ps) × (has_step e.1 ≡ true → IsIn e.1 ps)

-- what holds of entities by their ids, of those that are reached
pub moved : (P Q : EntityUID → Type 0) (R : StoredEntity → Type 0) → ((x : EntityUID) → Q x → P x) → (s : Store) → AllByRecursion (λ e. P e.uid → R e) s → AllByRecursion (λ e. Q e.uid → R e) s
moved P Q R f [] h = tt
moved P Q R f (e ∷ es) h = (λ q. h.0 (f e.uid q), moved P Q R f es h.1)

module _ (d : SchemaData) (g : EnvData) (q : Request) (s : Store) (ps : List AccessPath) (types : KeepsTypes d g (map (declared_part d g) ps) q s) where
  roots : (r : Root) → Fits d (root_type d g r) (root_value q r)
  roots = root_fits d g (map (declared_part d g) ps) q s types

  of_declared : AllByRecursion (λ e. kept_steps (map (declared_part d g) ps) q s e.uid [] ≡ true → EntityFits d e) s
  of_declared = all_fit d types.valid (λ x. kept_steps (map (declared_part d g) ps) q s x [] ≡ true) s types.entities

  reached_declared : ReachedFits d s (map (declared_part d g) ps) q
  reached_declared y k e f = all_at (λ e. kept_steps (map (declared_part d g) ps) q s e.uid [] ≡ true → EntityFits d e) s y e of_declared f (rw (uid_at s y e f) k)

  pub alike : (x : EntityUID) (cs : List Step) → is_declared d (Some (entity (x.entity_type ∷ []))) cs ≡ true → kept_steps (map (declared_part d g) ps) q s x cs ≡ kept_steps ps q s x cs
  alike x cs h = kept_declared d s g q roots ps reached_declared x cs h

  -- the same of the paths as they are
  pub of_whole : AllByRecursion (λ e. kept_steps ps q s e.uid [] ≡ true → EntityFits d e) s
  of_whole = moved (λ x. kept_steps (map (declared_part d g) ps) q s x [] ≡ true) (λ x. kept_steps ps q s x [] ≡ true) (EntityFits d) (λ x k. alike x [] refl ∙ k) s of_declared

  reached_whole : ReachedFits d s ps q
  reached_whole y k = reached_declared y (alike y [] refl ∙ k)

  same_part : part (by_paths (map (declared_part d g) ps) q s) s ≡ part (by_paths ps q s) s
  same_part = part_alike d (by_paths (map (declared_part d g) ps) q s) (by_paths ps q s) (λ x c h. alike x (steps_of c) h) (λ x n c h. alike x (any_tag ∷ steps_of c) h) (λ x y. refl) s of_declared

  part_all : AllByRecursion (EntityFits d) (part (by_paths ps q s) s)
  part_all = part_fits d (by_paths ps q s) s of_whole

  -- what is asked for is asked for on the declared parts
  pub same_ancestors : (ds : List Demand) → AreDemandsRead ps ds → (x y : EntityUID) → kept_ancestor (map (declared_part d g) ps) (filter (are_declared d g) ds) q s x y ≡ kept_ancestor ps ds q s x y
  same_ancestors ds read x y =
      ap (λ z. list_any (λ d. list_any (is_id x) (reach s q d.0) && list_any (names_id y) (reach z q d.1)) (filter (are_declared d g) ds)) same_part
      ∙ any_filtered (λ d. list_any (is_id x) (reach s q d.0) && list_any (names_id y) (reach (part (by_paths ps q s) s) q d.1)) (are_declared d g) ds
      (λ e j h. let b = and_parts (list_any (is_id x) (reach s q e.0)) (list_any (names_id y) (reach (part (by_paths ps q s) s) q e.1)) h in
      and_from (is_declared_path d g e.0) (is_declared_path d g e.1)
      (reach_declared d s g q roots e.0 (λ k. along e.0 ((read e j).0 k)) (is_id x) b.0)
      (reach_declared d (part (by_paths ps q s) s) g q roots e.1 (λ k y z f m. all_at (EntityFits d) (part (by_paths ps q s) s) y f part_all m) (names_id y) b.1))
    where
      along : (p : AccessPath) → IsIn p ps → AlongFits d s p.steps (root_value q p.root)
      along p i y k = reached_whole y (any_in (λ r. keeps s y [] r.steps (root_value q r.root)) p ps i k)

  -- the declared parts keep what the whole paths keep
  pub nothing_lost : (ds : List Demand) → AreDemandsRead ps ds → restrict (map (declared_part d g) ps) (filter (are_declared d g) ds) q s ≡ restrict ps ds q s
  nothing_lost ds read =
      part_alike d (needed (map (declared_part d g) ps) (filter (are_declared d g) ds) q s) (needed ps ds q s) (λ x c h. alike x (steps_of c) h) (λ x n c h. alike x (any_tag ∷ steps_of c) h)
      (λ x y i. alike x [] refl i && same_ancestors ds read x y i) s of_declared
