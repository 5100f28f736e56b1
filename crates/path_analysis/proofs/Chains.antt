-- Steps of the walk through the attributes of a record.
use Rattle.std.proofs.Common.{◌≡◌, ℕ, ◌≤◌, arith, List, [], ◌∷◌, ◌++◌, map, refl, sym, ap, ◌∙◌, append_assoc}
use Rattle.std.proofs.lemmas.List.{map-append}
use Rattle.schema_types.specs.Ty.{size_of_attrs}
use Rattle.schema_types.specs.TyView.{attrs_of}
use Rattle.schema_types.specs.declared.ty.AttributeType.{AttributeType}
use Rattle.reads_spec.specs.Paths.{along, Chain, steps_of, AccessPath, beyond}
use Rattle.reads_spec.specs.PathTypes.{chains, chains_in}

abbrev pub along_chains : AccessPath → List Chain → List AccessPath
along_chains p cs = map (λ c. beyond p (steps_of c)) cs

abbrev pub one_field_on : AccessPath → List ℕ → AccessPath
one_field_on p k = beyond p (along k ∷ [])

behind_first : (p : AccessPath) (k : List ℕ) (cs : List Chain) → along_chains p (map (λ c. k ∷ c) cs) ≡ along_chains (one_field_on p k) cs
behind_first p k [] = refl
behind_first p k (c ∷ cs) = λ i. record { root = p.root; steps = sym (append_assoc p.steps (along k ∷ []) (steps_of c)) i } ∷ behind_first p k cs i

module _ (p : AccessPath) (k : List ℕ) (a : AttributeType) where
  first_attribute : (rest : List (List ℕ × AttributeType)) →
      along_chains p (chains_in (attrs_of ((k, a) ∷ rest))) ≡ one_field_on p k ∷ (along_chains (one_field_on p k) (chains a.attr_type) ++ along_chains p (chains_in (attrs_of rest)))
  first_attribute rest =
      ap (λ l. one_field_on p k ∷ l) (map-append (λ c. beyond p (steps_of c)) (map (λ c. k ∷ c) (chains a.attr_type)) (chains_in (attrs_of rest))
      ∙ ap (λ l. l ++ along_chains p (chains_in (attrs_of rest))) (behind_first p k (chains a.attr_type)))

  -- what was found with one attribute more, and what is left
  pub one_attribute : (it rest : List (List ℕ × AttributeType)) → it ≡ (k, a) ∷ rest → (old new : List AccessPath) →
      new ≡ old ++ one_field_on p k ∷ along_chains (one_field_on p k) (chains a.attr_type) →
      (all : List AccessPath) → old ++ along_chains p (chains_in (attrs_of it)) ≡ all → new ++ along_chains p (chains_in (attrs_of rest)) ≡ all
  one_attribute it rest is old new added all h =
      let left = along_chains p (chains_in (attrs_of rest)) in
      ap (λ l. l ++ left) added
      ∙ append_assoc old (one_field_on p k ∷ along_chains (one_field_on p k) (chains a.attr_type)) left
      ∙ ap (λ l. old ++ l) (sym (first_attribute rest))
      ∙ ap (λ es. old ++ along_chains p (chains_in (attrs_of es))) (sym is)
      ∙ h

  pub size_left : (it rest : List (List ℕ × AttributeType)) → it ≡ (k, a) ∷ rest → (n : ℕ) → size_of_attrs (attrs_of it) ≤ n → size_of_attrs (attrs_of rest) ≤ n
  size_left it rest is n h = omega (arith, ap (λ es. size_of_attrs (attrs_of es)) is)
