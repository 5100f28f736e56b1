-- Rows over one question after another: they go on, and a failure of one is counted over all.
use Rattle.std.proofs.Common.{◌≡◌, ◌∙◌, true, Result, Ok, Err, refl, subst, inl, inr, arith}
use Rattle.byte_streams.specs.Steps.{Rose}
use Rattle.entity_loader.specs.declared.loader.LoadError.{LoadError}
use Rattle.entity_loader.specs.declared.loader.LoadError.TheVariants.{Failed, OutOfMemory}
use Rattle.table_loader.specs.RowsState.{RowsState, RowsContinue, IsCounted, has_failed}
use Rattle.table_loader.specs.declared.rows.RowsError.{RowsError}
use Rattle.table_loader.specs.Asking.{IsCause}

pub rows_here : (r : RowsState) → RowsContinue r r
rows_here r = record { known = λ t h. h; steady = refl; stays = λ h. refl; faults = omega arith }

module _ (a b c : RowsState) where
  pub rows_later : RowsContinue a b → RowsContinue b c → RowsContinue a c
  rows_later f g = record {
    known = λ t h. f.known t (g.known t h);
    steady = g.steady ∙ f.steady;
    stays = λ h. g.stays (f.steady ∙ h) ∙ f.stays h;
    faults = omega (arith, f.faults, g.faults);
  }

  rose_later : RowsContinue a b → Rose b.faults c.faults → Rose a.faults c.faults
  rose_later f (inl more) = inl (omega (arith, f.faults, more))
  rose_later f (inr last) = inr last

  pub cause_later : {X : Type 0} (r : Result X LoadError) → RowsContinue a b → IsCause r b c → IsCause r a c
  cause_later (Ok x) f h = tt
  cause_later (Err OutOfMemory) f h = tt
  cause_later (Err Failed) f h = rose_later f h

-- what was read is loaded: a failure of the first is counted
pub counted_cause : {X Y : Type 0} (a b : RowsState) (read : Result X RowsError) (r : Result Y LoadError) →
    (r ≡ Err Failed → has_failed read ≡ true) → IsCounted (has_failed read) a b → IsCause r a b
counted_cause a b read (Ok x) f h = tt
counted_cause a b read (Err OutOfMemory) f h = tt
counted_cause a b read (Err Failed) f h = subst (λ z. IsCounted z a b) (f refl) h

pub rose_of_cause : {X : Type 0} (a b : RowsState) (r : Result X LoadError) → IsCause r a b → r ≡ Err Failed → Rose a.faults b.faults
rose_of_cause a b (Ok x) h is = absurd (cc)
rose_of_cause a b (Err OutOfMemory) h is = absurd (cc)
rose_of_cause a b (Err Failed) h is = h
