-- What is typed again.
use Rattle.std.proofs.Common.{◌≡◌, Bool, true, false, ◌&&◌, ◌||◌, [], ◌∷◌, Option, None, Some, is_some, refl, sym, subst, ap, ◌∙◌}
use Rattle.std.specs.Option.{option_or, option_and_then}
use Rattle.std.specs.Ordering.{is_eq}
use Rattle.std.specs.Cmp.{tied_itself}
use Rattle.policy_values.specs.Ties.{equal_of}
use Rattle.entity_store.specs.declared.request.RequestType.{RequestType}
use Rattle.schema_types.specs.Ty.{Ty, never}
use Rattle.schema_core.specs.Schema.{SchemaData}
use Rattle.access_tries.specs.declared.edge.Edge.{Edge}
use Rattle.access_tries.specs.Edges.{Address, edge_cmp, edge_eq}
use Rattle.access_tries.specs.Table.{Table, IsTable, leads, is_marked}
use Rattle.access_tries.specs.Paths.{IsSame}
use Rattle.access_tries.specs.Trees.{Branch, branch, Branches, no_branches, leading, branches_of, passes, some_passes}
use Rattle.access_tries.specs.EdgeLaws.{exact_edge, edge_total}
use Rattle.access_tries.proofs.Branching.{same_below}
use Rattle.manifest_core.specs.declared.error.MismatchedEntityManifestError.{MismatchedEntityManifestError as Mismatch}
use Rattle.manifest_core.specs.Manifest.{Manifest}
use Rattle.manifest_core.specs.Mismatches.{edge_fault, type_behind, first_fault, first_among, trie_fault, is_declared_address, KeepsDeclared, first_mismatch, AreTyped}
use Rattle.manifest_core.proofs.Keeping.{is_there}
use Rattle.manifest_core.specs.Laws.{AreTables, AreSameEntries, TypedStays}
use Rattle.plain_lemmas.proofs.Booleans.{or_true}

-- neither of two is there
first_none : {A : Type 0} (o p : Option A) → option_or o p ≡ None → o ≡ None
first_none None p h = refl
first_none (Some x) p h = cc

second_none : {A : Type 0} (o p : Option A) → option_or o p ≡ None → p ≡ None
second_none None p h = h
second_none (Some x) p h = cc

both_none : {A : Type 0} (o p : Option A) → o ≡ None → p ≡ None → option_or o p ≡ None
both_none None p h k = k
both_none (Some x) p h k = cc

abbrev any : Bool → Bool
any m = true

module _ (s : SchemaData) (t : RequestType) where
  -- what is wrong along one path
  abbrev path_fault : Ty → Address → Option Mismatch
  path_fault u [] = None
  path_fault u (e ∷ es) = option_or (edge_fault s t u e) (option_and_then (λ v. path_fault v es) (type_behind s t u e))

  -- where nothing is wrong with a tree, nothing is along its paths
  mutual
    none_along : (b : Branch) (u : Ty) → first_fault s t u b ≡ None → (es : Address) → passes any b es ≡ true → path_fault u es ≡ None
    none_along (branch m bs) u h [] p = refl
    none_along (branch m bs) u h (e ∷ es) p = none_among bs u h e es p

    none_among : (bs : Branches) (u : Ty) → first_among s t u bs ≡ None → (e : Edge) (es : Address) → some_passes any bs e es ≡ true → path_fault u (e ∷ es) ≡ None
    none_among no_branches u h e es p = cc
    none_among (leading x b bs) u h e es p =
        let behind : Option Ty → Option Mismatch = λ o. option_and_then (λ v. first_fault s t v b) o in
        let rest = second_none (edge_fault s t u x) (option_or (behind (type_behind s t u x)) (first_among s t u bs)) h in
        by (λ v k q. none_along b v k es q) (edge_eq x e) refl (passes any b es) refl (first_none (edge_fault s t u x) _ h) (first_none (behind (type_behind s t u x)) (first_among s t u bs) rest) (none_among bs u (second_none (behind (type_behind s t u x)) (first_among s t u bs) rest) e es) p
      where
        here : ((v : Ty) → first_fault s t v b ≡ None → passes any b es ≡ true → path_fault v es ≡ None) → (o : Option Ty) → option_and_then (λ v. first_fault s t v b) o ≡ None → passes any b es ≡ true → option_and_then (λ v. path_fault v es) o ≡ None
        here inner None k q = refl
        here inner (Some v) k q = inner v k q

        by : ((v : Ty) → first_fault s t v b ≡ None → passes any b es ≡ true → path_fault v es ≡ None) → (c : Bool) → edge_eq x e ≡ c → (q : Bool) → passes any b es ≡ q → edge_fault s t u x ≡ None → option_and_then (λ v. first_fault s t v b) (type_behind s t u x) ≡ None → (some_passes any bs e es ≡ true → path_fault u (e ∷ es) ≡ None) → ((c && q) || some_passes any bs e es) ≡ true → path_fault u (e ∷ es) ≡ None
        by inner true same true pass edge below later _ =
            subst (λ a. path_fault u (a ∷ es) ≡ None) (exact_edge x e (equal_of (edge_cmp x e) same)) (both_none (edge_fault s t u x) (option_and_then (λ v. path_fault v es) (type_behind s t u x)) edge (here inner (type_behind s t u x) below pass))
        by inner true same false pass edge below later q = later q
        by inner false same c pass edge below later q = later q

  -- where nothing is wrong along the paths, nothing is with the tree
  mutual
    none_of_branch : (b : Branch) (u : Ty) → ((es : Address) → passes any b es ≡ true → path_fault u es ≡ None) → first_fault s t u b ≡ None
    none_of_branch (branch m bs) u h = none_of bs u (λ e es p. h (e ∷ es) p)

    none_of : (bs : Branches) (u : Ty) → ((e : Edge) (es : Address) → some_passes any bs e es ≡ true → path_fault u (e ∷ es) ≡ None) → first_among s t u bs ≡ None
    none_of no_branches u h = refl
    none_of (leading x b bs) u h =
        both_none (edge_fault s t u x) _ edge (both_none (option_and_then (λ v. first_fault s t v b) (type_behind s t u x)) (first_among s t u bs) (behind (λ v k. none_of_branch b v k) (type_behind s t u x) refl) (none_of bs u (λ e es p. h e es (ap (λ c. (edge_eq x e && passes any b es) || c) p ∙ or_true (edge_eq x e && passes any b es)))))
      where
        along_b : (es : Address) → passes any b es ≡ true → path_fault u (x ∷ es) ≡ None
        along_b es p = h x es (ap (λ c. (c && passes any b es) || some_passes any bs x es) (ap is_eq (tied_itself edge_total x)) ∙ ap (λ c. c || some_passes any bs x es) p)

        start : (c : Branch) → passes any c [] ≡ true
        start (branch m cs) = refl

        edge : edge_fault s t u x ≡ None
        edge = first_none (edge_fault s t u x) (option_and_then (λ v. path_fault v []) (type_behind s t u x)) (along_b [] (start b))

        behind : ((v : Ty) → ((es : Address) → passes any b es ≡ true → path_fault v es ≡ None) → first_fault s t v b ≡ None) → (o : Option Ty) → type_behind s t u x ≡ o → option_and_then (λ v. first_fault s t v b) o ≡ None
        behind inner None is = refl
        behind inner (Some v) is = inner v (λ es p. ap (option_and_then (λ w. path_fault w es)) (sym is) ∙ second_none (edge_fault s t u x) (option_and_then (λ w. path_fault w es) (type_behind s t u x)) (along_b es p))

  leads_is : (a : Table) → IsTable a → (e : Edge) (es : Address) → leads a (e ∷ es) ≡ some_passes any (branches_of a) e es
  leads_is a k e es = same_below is_some any a k.closed (λ i h. sym (is_there a i h)) 0 e es

  fits_again : (a b : Table) → IsTable a → IsTable b → trie_fault s t a ≡ None → KeepsDeclared s t a b → trie_fault s t b ≡ None
  fits_again a b ka kb none typed =
      none_of (branches_of b) never (λ e es p. none_among (branches_of a) never none e es (sym (leads_is a ka e es) ∙ prefix (leads a (e ∷ es)) _ (sym (typed.paths (e ∷ es)) ∙ leads_is b kb e es ∙ p)))
    where
      prefix : (p q : Bool) → (p && q) ≡ true → p ≡ true
      prefix true q h = refl
      prefix false q h = h

  again : (p q : Bool) → (p && q) ≡ ((p && q) && q)
  again true true = refl
  again true false = refl
  again false q = refl

  same_again : (a b c : Table) → KeepsDeclared s t a b → KeepsDeclared s t b c → IsSame b c
  same_again a b c ab bc = record {
    paths = λ es. ab.paths es ∙ again (leads a es) (is_declared_address s t never es) ∙ sym (bc.paths es ∙ ap (λ p. p && is_declared_address s t never es) (ab.paths es));
    marks = λ es. ab.marks es ∙ again (is_marked a es) (is_declared_address s t never es) ∙ sym (bc.marks es ∙ ap (λ p. p && is_declared_address s t never es) (ab.marks es));
  }

fits : (s : SchemaData) (m n : Manifest) → AreTables m → AreTables n → first_mismatch s m ≡ None → AreTyped s m n → first_mismatch s n ≡ None
fits s [] [] km kn h typed = refl
fits s [] (b ∷ n) km kn h typed = absurd typed
fits s (a ∷ m) [] km kn h typed = absurd typed
fits s (a ∷ m) (b ∷ n) km kn h typed =
    both_none (trie_fault s b.0 b.1) (first_mismatch s n) (subst (λ t. trie_fault s t b.1 ≡ None) typed.0 (fits_again s a.0 a.1 b.1 km.0 kn.0 (first_none (trie_fault s a.0 a.1) (first_mismatch s m) h) typed.1))
    (fits s m n km.1 kn.1 (second_none (trie_fault s a.0 a.1) (first_mismatch s m) h) typed.2)

stays : (s : SchemaData) (m n o : Manifest) → AreTyped s m n → AreTyped s n o → AreSameEntries n o
stays s [] [] [] mn nw = tt
stays s [] [] (c ∷ o) mn nw = absurd nw
stays s [] (b ∷ n) o mn nw = absurd mn
stays s (a ∷ m) [] o mn nw = absurd mn
stays s (a ∷ m) (b ∷ n) [] mn nw = absurd nw
stays s (a ∷ m) (b ∷ n) (c ∷ o) mn nw = (nw.0, same_again s b.0 a.1 b.1 c.1 (subst (λ t. KeepsDeclared s t a.1 b.1) mn.0 mn.1) nw.1, stays s m n o mn.2 nw.2)

pub typed_stays : TypedStays
typed_stays = record { fits = fits; stays = stays }
