-- Steps of the loops of evaluation.
use Rattle.std.proofs.Common.{◌≡◌, ℕ, ◌≤◌, List, [], ◌∷◌, ◌++◌, Result, Ok, Err, ap, sym, ◌∙◌, refl, append_assoc, arith}
use Rattle.std.specs.Map.{keys_of}
use Rattle.policy_core.specs.declared.outcome.EvalError.{EvalError}
use Rattle.policy_core.specs.declared.outcome.Outcome.TheVariants.{Value}
use Rattle.entity_store.specs.declared.request.Request.{Request}
use Rattle.policy_values.specs.Value.{Val}
use Rattle.entity_store.specs.Store.{Store}
use Rattle.policy_expressions.specs.Tree.{Tree, named_of, deepest_named}
use Rattle.policy_core.specs.Eval.{eval, eval_named, result_map, in_prefix}
use Rattle.policy_values.proofs.MapSteps.{keys_of-append}

regroup : {X E : Type 0} → (done : List X) (x : X) (r : Result (List X) E) → result_map (λ vs. (done ++ x ∷ []) ++ vs) r ≡ result_map (λ vs. done ++ vs) (result_map (λ vs. x ∷ vs) r)
regroup done x (Ok vs) = ap Ok (append_assoc done (x ∷ []) vs)
regroup done x (Err e) = refl

module _ {A : Type 0} (done new : List (List ℕ × Val)) (k : List ℕ) (x : Tree A) (v : Val) (it rest : List (List ℕ × Tree A)) (is : it ≡ (k, x) ∷ rest) (pushed : new ≡ done ++ (k, v) ∷ []) where
  pub so_far_more : (all : Result (List (List ℕ × Val)) EvalError) (q : Request) (s : Store) → eval x q s ≡ Value v → result_map (λ vs. done ++ vs) (eval_named (named_of it) q s) ≡ all → result_map (λ vs. new ++ vs) (eval_named (named_of rest) q s) ≡ all
  so_far_more all q s e h =
      ap (λ es. result_map (λ vs. es ++ vs) (eval_named (named_of rest) q s)) pushed
      ∙ regroup done (k, v) (eval_named (named_of rest) q s)
      ∙ ap (λ o. result_map (λ vs. done ++ vs) (in_prefix (λ w. (k, w)) o (eval_named (named_of rest) q s))) (sym e)
      ∙ ap (λ es. result_map (λ vs. done ++ vs) (eval_named (named_of es) q s)) (sym is)
      ∙ h

  pub keys_more : (all : List (List ℕ)) → all ≡ keys_of done ++ keys_of it → all ≡ keys_of new ++ keys_of rest
  keys_more all h =
      h ∙ ap (λ es. keys_of done ++ keys_of es) is ∙ sym (append_assoc (keys_of done) (k ∷ []) (keys_of rest))
      ∙ ap (λ ks. ks ++ keys_of rest) (sym (keys_of-append done ((k, v) ∷ []))) ∙ ap (λ es. keys_of es ++ keys_of rest) (sym pushed)

  pub depth_more : (n : ℕ) → deepest_named (named_of it) ≤ n → deepest_named (named_of rest) ≤ n
  depth_more n h = omega (arith, ap (λ es. deepest_named (named_of es)) is)
