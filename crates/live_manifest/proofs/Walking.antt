-- Steps of walks through the environments of a schema.
use Rattle.std.proofs.Common.{◌≡◌, ℕ, ◌+◌, ◌<◌, ◌≤◌, arith, List, [], ◌∷◌, ◌++◌, append_assoc, map, take, length, get_or, Option, Some, None, IfSome, refl, sym, ap, ◌∙◌, subst}
use Rattle.std.specs.Prelude.{option_to_list}
use Rattle.std.specs.List.{AllZip, cons_option}
use Rattle.std.specs.Map.{keys_of}
use Rattle.plain_lemmas.proofs.Lists.{append_empty, empty_of_length, zip_length}
use Rattle.std.proofs.lemmas.List.{length-append, length-map, length-take-le, map-append}
use Rattle.std.proofs.Math.Seq.{take-length}
use Rattle.access_tries.specs.Table.{Table}
use Rattle.entity_store.specs.declared.request.RequestType.{RequestType}
use Rattle.schema_core.specs.EnvData.{EnvData, request_type_in, unlinked_envs}
use Rattle.schema_core.specs.Faults.{IsSchema}
use Rattle.schema_core.specs.RequestEnvs.{env_data_of}
use Rattle.schema_core.specs.declared.request_env.RequestEnv.{RequestEnv}
use Rattle.schema_core.specs.Schema.{SchemaData}
use Rattle.manifest_core.specs.Manifest.{IsNextType, Manifest}
use Rattle.manifest_computation.proofs.Ascending.{IsBefore, Pairwise, envs_ascend}
use Rattle.manifest_computation.proofs.Entries.{at_seam, before_types, done, rest, taken_one_more, whole, zip_last}
use Rattle.live_manifest.specs.Tries.{IsBuiltOf, IsPlaced}

-- one environment more
pub one_more : {Y : Type 0} (R : EnvData → Y → Type 0) (items : List RequestEnv) (i : ℕ) (env : RequestEnv) → env ≡ get_or items i env → i < length items →
    (ts us : List Y) (t : Y) → AllZip R (map env_data_of (take i items)) ts → us ≡ ts ++ t ∷ [] → R (env_data_of env) t → AllZip R (map env_data_of (take (i + 1) items)) us
one_more R items i env is h ts us t zip added r =
    let more : map env_data_of (take (i + 1) items) ≡ map env_data_of (take i items) ++ env_data_of env ∷ [] =
    ap (map env_data_of) (taken_one_more items i env h ∙ ap (λ e. take i items ++ e ∷ []) (sym is)) ∙ map-append env_data_of (take i items) (env ∷ []) in
    subst (λ es. AllZip R es us) (sym more) (subst (AllZip R (map env_data_of (take i items) ++ env_data_of env ∷ [])) (sym added) (zip_last R (map env_data_of (take i items)) ts (env_data_of env) t zip r))

-- the request type of the next environment comes behind those of the entries so far
next_behind : (before : List EnvData) (m : Manifest) (env : EnvData) (later : List EnvData) (q : RequestType) →
    request_type_in env ≡ Some q → AllZip IsPlaced before m → Pairwise IsBefore (before ++ env ∷ later) → IsNextType q (keys_of m)
next_behind [] [] env later q is h b = tt
next_behind [] (x ∷ m) env later q is h b = absurd h
next_behind (e ∷ before) [] env later q is h b = absurd h
next_behind (e ∷ before) (x ∷ m) env later q is h b =
    (before_types e env x.0 q h.0.request_type is (at_seam (IsBefore e) before env later b.0), next_behind before m env later q is h.1 b.1)

pub behind_here : (schema : SchemaData) → IsSchema schema → (items : List RequestEnv) → map env_data_of items ≡ unlinked_envs schema → (i : ℕ) (env : RequestEnv) → env ≡ get_or items i env → i < length items →
    (m : Manifest) → AllZip IsPlaced (map env_data_of (take i items)) m → IfSome (request_type_in (env_data_of env)) (λ q. IsNextType q (keys_of m))
behind_here schema ok items same i env is h m placed = by (request_type_in (env_data_of env)) refl
  where
    by : (o : Option RequestType) → request_type_in (env_data_of env) ≡ o → IfSome o (λ q. IsNextType q (keys_of m))
    by None e = tt
    by (Some q) e =
        next_behind (done schema ok [] items same i env is h) m (env_data_of env) (rest schema ok [] items same i env is h) q e placed
        (subst (Pairwise IsBefore) (whole schema ok [] items same i env is h) (envs_ascend schema ok))

-- what was placed, and what is left
pub one_placed : (m new : Manifest) (x : RequestType × Table) (left later all : List Table) → new ≡ m ++ x ∷ [] → left ≡ x.1 ∷ later → map (λ e. e.1) m ++ left ≡ all → map (λ e. e.1) new ++ later ≡ all
one_placed m new x left later all added is h =
    ap (λ l. map (λ e. e.1) l ++ later) added ∙ ap (λ l. l ++ later) (map-append (λ e. e.1) m (x ∷ []))
    ∙ append_assoc (map (λ e. e.1) m) (x.1 ∷ []) later ∙ ap (λ l. map (λ e. e.1) m ++ l) (sym is) ∙ h

-- a list of one at most
pub listed : {X : Type 0} (o : Option X) → option_to_list o ≡ cons_option o []
listed None = refl
listed (Some x) = refl

-- at the end, and where there are too few tries
module _ (schema : SchemaData) (items : List RequestEnv) (same : map env_data_of items ≡ unlinked_envs schema) (i : ℕ) (m : Manifest) (left all : List Table)
    (placed : AllZip IsPlaced (map env_data_of (take i items)) m) (tries : map (λ e. e.1) m ++ left ≡ all) (long : length all ≡ length (unlinked_envs schema)) where
  so_many : length all ≡ length items
  so_many = long ∙ sym (ap length same) ∙ length-map items env_data_of

  so_far : i ≤ length items → length m ≡ i
  so_far h = sym (zip_length IsPlaced (map env_data_of (take i items)) m placed) ∙ length-map (take i items) env_data_of ∙ length-take-le i items h

  in_all : length m + length left ≡ length all
  in_all = (λ j. sym (length-map m (λ e. e.1)) j + length left) ∙ sym (length-append (map (λ e. e.1) m) left) ∙ ap length tries

  pub too_few : i < length items → left ≡ [] → ⊥
  too_few h none = absurd (omega (arith, h, so_many, so_far (omega (arith, h)), in_all, ap length none))

  pub all_placed : i ≡ length items → IsBuiltOf schema all m
  all_placed h =
      let none : left ≡ [] = empty_of_length left (omega (arith, h, so_many, so_far (omega (arith, h)), in_all)) in
      record {
        placed = subst (λ es. AllZip IsPlaced es m) (ap (map env_data_of) (ap (λ n. take n items) h ∙ take-length items) ∙ same) placed;
        tries = sym (append_empty (map (λ e. e.1) m)) ∙ ap (λ l. map (λ e. e.1) m ++ l) (sym none) ∙ tries;
      }
