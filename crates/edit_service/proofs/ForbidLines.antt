-- The lines on forbids, as they are gathered.
use Rattle.std.proofs.Common.{◌≡◌, ℕ, true, false, List, [], ◌∷◌, ◌++◌, append-nil, append_assoc, sym, subst}
use Rattle.policy_risks.specs.Closed.{IsClosed}
use Rattle.policy_risks.specs.declared.endings.Assumed.{Assumed}
use Rattle.policy_risks.specs.declared.endings.Endings.{Endings}
use Rattle.policy_set.specs.Data.{PolicyData}
use Rattle.schema_core.specs.Schema.{SchemaData}
use Rattle.policy_compare.specs.Conditions.{is_permit}
use Rattle.edit_service.specs.Forbids.{AreForbidLines, none, permit, forbid, ending_lines}

module _ (schema : SchemaData) (a : Assumed) (all : List PolicyData) where
  -- the lines so far, and then those on what is left
  pub record AreLinesOn (left : List PolicyData) (so_far : List ℕ) : Type 0 where
    pub on : (rest : List ℕ) → AreForbidLines schema a left rest → AreForbidLines schema a all (so_far ++ rest)

  pub begun : AreLinesOn all []
  begun = record { on = λ rest h. h }

  module _ (left rest : List PolicyData) (p : PolicyData) (is : left ≡ p ∷ rest) (so_far : List ℕ) (g : AreLinesOn left so_far) where
    pub passed : is_permit p.effect ≡ true → AreLinesOn rest so_far
    passed h = record { on = λ text k. g.on text (subst (λ l. AreForbidLines schema a l text) (sym is) (permit h k)) }

    pub added : is_permit p.effect ≡ false → (e : Endings) → (e.closed ≡ true → IsClosed schema a p) → AreLinesOn rest (so_far ++ ending_lines p.id e)
    added h e f = record {
      on = λ text k. subst (AreForbidLines schema a all) (sym (append_assoc so_far (ending_lines p.id e) text))
          (g.on (ending_lines p.id e ++ text) (subst (λ l. AreForbidLines schema a l (ending_lines p.id e ++ text)) (sym is) (forbid h e f k)));
    }

  pub ended : (left : List PolicyData) (so_far : List ℕ) → left ≡ [] → AreLinesOn left so_far → AreForbidLines schema a all so_far
  ended left so_far is g = subst (AreForbidLines schema a all) (append-nil so_far) (g.on [] (subst (λ l. AreForbidLines schema a l []) (sym is) none))
