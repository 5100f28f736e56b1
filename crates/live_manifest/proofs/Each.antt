-- Tries that are united one by one.
use Rattle.std.proofs.Common.{◌≡◌, List, [], ◌∷◌, ◌++◌, append_assoc, length, map, refl, sym, ap, ◌∙◌, subst}
use Rattle.plain_lemmas.proofs.Lists.{append_empty, empty_of_length}
use Rattle.access_tries.specs.Paths.{IsUnion}
use Rattle.access_tries.specs.Table.{Table}
use Rattle.manifest_core.specs.Manifest.{Manifest}
use Rattle.live_manifest.specs.Tries.{AreUnionsOf, AreUnited}

module _ (ms own : List Table) where
  -- what was united is part of what is asked for
  abbrev pub IsPrefix : List Table → List Table → List Table → Type 0
  IsPrefix it rest done = (vs : List Table) → AreUnionsOf it rest vs → AreUnionsOf ms own (done ++ vs)

  pub one_union : (it later rest left done more : List Table) (w o u : Table) → it ≡ w ∷ later → rest ≡ o ∷ left → IsUnion w o u → more ≡ done ++ u ∷ [] → IsPrefix it rest done → IsPrefix later left more
  one_union it later rest left done more w o u is those union added h = λ vs k.
      subst (AreUnionsOf ms own) (sym (ap (λ l. l ++ vs) added ∙ append_assoc done (u ∷ []) vs))
      (h (u ∷ vs) (subst (λ l. AreUnionsOf l rest (u ∷ vs)) (sym is) (subst (λ l. AreUnionsOf (w ∷ later) l (u ∷ vs)) (sym those) (union, k))))

  pub last_union : (it rest done : List Table) → it ≡ [] → IsPrefix it rest done → AreUnionsOf ms own done
  last_union it rest done none h = subst (AreUnionsOf ms own) (append_empty done) (h [] (subst (λ l. AreUnionsOf l rest []) (sym none) refl))

  pub no_other : (it later rest done : List Table) (w : Table) → it ≡ w ∷ later → rest ≡ [] → IsPrefix it rest done → AreUnionsOf ms own done
  no_other it later rest done w is none h =
      subst (AreUnionsOf ms own) (append_empty done) (h [] (subst (λ l. AreUnionsOf l rest []) (sym is) (subst (λ l. AreUnionsOf (w ∷ later) l []) (sym none) refl)))

-- of a manifest without entries, and of one with some
pub united_alone : (m : Manifest) (us vs : List Table) → length m ≡ 0 → vs ≡ us → AreUnited m us vs
united_alone m us vs none h = subst (λ l. AreUnited l us vs) (sym (empty_of_length m none)) h

pub united_each : (m : Manifest) (us vs : List Table) → ¬ (length m ≡ 0) → AreUnionsOf (map (λ e. e.1) m) us vs → AreUnited m us vs
united_each [] us vs some h = absurd (some refl)
united_each (e ∷ m) us vs some h = h
