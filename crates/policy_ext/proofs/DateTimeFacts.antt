-- Datetimes: what is read is written so, and what is written so is read.
use Rattle.std.proofs.Common.{◌≡◌, ◌↔◌, ℕ, ◌+◌, ◌-◌, ◌*◌, ◌/◌, ◌%◌, ◌≤◌, ◌⊎◌, inl, inr, ◌==◌, ◌&&◌, ◌||◌, Bool, true, false, List, [], ◌∷◌, ◌++◌, length, Option, Some, None, nat_lt, nat_le, cond, if◌then◌else◌, refl, sym, ap, subst, ◌∙◌, arith, ℤ, pos, ◌-ℤ◌, ◌*ℤ◌, ◌≤ℤ◌, negsuc, unsigned_abs}
use Rattle.std.proofs.lemmas.Bool.{ltb-false, le-ltb, le-leb, leb-true, eqb-true, and_parts}
use Rattle.std.specs.Char.{is_ascii_digit}
use Rattle.std.specs.Option.{option_and_then, option_map}
use Rattle.std.proofs.lemmas.Int.{ints}
use Rattle.jiff.specs.Words.{days_in_month, is_leap_year}
use Rattle.std.proofs.lemmas.Option.{same_Some}
use Rattle.policy_ext.specs.Sign.{signed}
use Rattle.policy_ext.proofs.DayFacts.{same_nat}
use Rattle.policy_ext.proofs.NumberFacts.{bind, mapped, unless, guard}
use Rattle.policy_ext.specs.DateTime.{two, three, four, IsDay, IsFraction, IsOffset, IsZone, IsClock, IsDateTime}
use Rattle.policy_ext.specs.DateTimeReading.{digits2, mark, up_to, date_at, IsDayOf, digits3, fraction_at, at_end, offset_of, zone_of, hms_at, clock_of, instant_of}

digit_range : (a : ℕ) → is_ascii_digit a ≡ true → (48 ≤ a) × (a ≤ 57)
digit_range a e = let t = and_parts (nat_le 48 a) (nat_le a 57) e in (leb-true _ _ t.0, leb-true _ _ t.1)

digit_is : (n : ℕ) → n ≤ 9 → is_ascii_digit (48 + n) ≡ true
digit_is n h = rw (le-leb 48 (48 + n) (omega arith), le-leb (48 + n) 57 (omega arith)) refl

cells : (a b n : ℕ) (rest : List ℕ) → 48 ≤ a → a ≤ 57 → 48 ≤ b → b ≤ 57 → n ≡ (a - 48) * 10 + (b - 48) → a ∷ b ∷ rest ≡ two n ++ rest
cells a b n rest la ha lb hb e =
    let x : a ≡ 48 + n / 10 = omega arith in
    let y : b ≡ 48 + n % 10 = omega arith in
    ap (λ k. k ∷ b ∷ rest) x ∙ ap (λ k. (48 + n / 10) ∷ k ∷ rest) y

digits2_found : (text : List ℕ) (p : ℕ × List ℕ) → digits2 text ≡ Some p → (text ≡ two p.0 ++ p.1) × (p.0 ≤ 99)
digits2_found [] p e = cc
digits2_found (a ∷ []) p e = cc
digits2_found (a ∷ b ∷ rest) p e =
    let some = guard (is_ascii_digit a && is_ascii_digit b) (Some ((a - 48) * 10 + (b - 48), rest)) p e in
    let t = and_parts _ _ some.0 in
    let ra = digit_range a t.0 in
    let rb = digit_range b t.1 in
    let is = same_Some _ _ some.1 in
    let n : (a - 48) * 10 + (b - 48) ≡ p.0 = ap (λ (q : ℕ × List ℕ). q.0) is in
    (cells a b p.0 rest ra.0 ra.1 rb.0 rb.1 (sym n) ∙ ap (λ (q : ℕ × List ℕ). two p.0 ++ q.1) is, omega arith)

digits2_is : (n : ℕ) (rest : List ℕ) → n ≤ 99 → digits2 (two n ++ rest) ≡ Some (n, rest)
digits2_is n rest h =
    let value : (48 + n / 10 - 48) * 10 + (48 + n % 10 - 48) ≡ n = omega arith in
    rw (digit_is (n / 10) (omega arith), digit_is (n % 10) (omega arith)) (ap (λ k. Some (k, rest)) value)

two_found : (most : ℕ) (text : List ℕ) (p : ℕ × List ℕ) → up_to most (digits2 text) ≡ Some p → (text ≡ two p.0 ++ p.1) × (p.0 ≤ most)
two_found most text p e =
    let read = bind _ (digits2 text) p e in
    let some = unless (nat_lt most read.0.0) (Some read.0) p read.2 in
    let is = same_Some _ _ some.1 in
    (subst (λ (q : ℕ × List ℕ). text ≡ two q.0 ++ q.1) is (digits2_found text read.0 read.1).0, subst (λ (q : ℕ × List ℕ). q.0 ≤ most) is (ltb-false _ _ some.0))

two_is : (most n : ℕ) (rest : List ℕ) → n ≤ most → most ≤ 99 → up_to most (digits2 (two n ++ rest)) ≡ Some (n, rest)
two_is most n rest h low = rw (digits2_is n rest (omega arith)) (rw (le-ltb most n h) refl)

mark_found : (c : ℕ) (text rest : List ℕ) → mark c text ≡ Some rest → text ≡ c ∷ rest
mark_found c [] rest e = cc
mark_found c (b ∷ bs) rest e = let some = guard (b == c) (Some bs) rest e in ap (λ k. k ∷ bs) (eqb-true b c some.0) ∙ ap (λ (l : List ℕ). c ∷ l) (same_Some _ _ some.1)

-- YYYY-MM-DD in front, and the rest
record IsYmdText (text : List ℕ) (p : ℕ × ℕ × ℕ × List ℕ) : Type 0 where
  pub spelled : text ≡ (four p.0 ++ 45 ∷ (two p.1 ++ 45 ∷ two p.2)) ++ p.3
  pub year_fits : p.0 ≤ 9999

date_found : (text : List ℕ) (p : ℕ × ℕ × ℕ × List ℕ) → date_at text ≡ Some p → IsYmdText text p
date_found text p e =
    let c = bind _ (digits2 text) p e in
    let y = bind _ (digits2 c.0.1) p c.2 in
    let r = bind _ (mark 45 y.0.1) p y.2 in
    let m = bind _ (digits2 r.0) p r.2 in
    let t = bind _ (mark 45 m.0.1) p m.2 in
    let d = mapped _ (digits2 t.0) p t.2 in
    let fc = digits2_found text c.0 c.1 in
    let fy = digits2_found c.0.1 y.0 y.1 in
    let fm = digits2_found r.0 m.0 m.1 in
    let fd = digits2_found t.0 d.0 d.1 in
    let year = c.0.0 * 100 + y.0.0 in
    let high : c.0.0 ≡ year / 100 = omega (arith, fy.1) in
    let low : y.0.0 ≡ year % 100 = omega (arith, fy.1) in
    let tail : text ≡ two c.0.0 ++ (two y.0.0 ++ 45 ∷ (two m.0.0 ++ 45 ∷ (two d.0.0 ++ d.0.1))) =
    fc.0 ∙ ap (λ (l : List ℕ). two c.0.0 ++ l) (fy.0 ∙ ap (λ (l : List ℕ). two y.0.0 ++ l) (mark_found 45 y.0.1 r.0 r.1 ∙ ap (λ (l : List ℕ). 45 ∷ l) (fm.0 ∙ ap (λ (l : List ℕ). two m.0.0 ++ l) (mark_found 45 m.0.1 t.0 t.1 ∙ ap (λ (l : List ℕ). 45 ∷ l) fd.0)))) in
    let parts : text ≡ (four year ++ 45 ∷ (two m.0.0 ++ 45 ∷ two d.0.0)) ++ d.0.1 = tail ∙ ap (λ (k : ℕ). two k ++ (two y.0.0 ++ 45 ∷ (two m.0.0 ++ 45 ∷ (two d.0.0 ++ d.0.1)))) high ∙ ap (λ (k : ℕ). two (year / 100) ++ (two k ++ 45 ∷ (two m.0.0 ++ 45 ∷ (two d.0.0 ++ d.0.1)))) low in
    let fits : year ≤ 9999 = omega (arith, fc.1, fy.1) in
    subst (IsYmdText text) d.2 (record { spelled = parts; year_fits = fits })

either_low : (t : Bool) (x y k : ℕ) → x ≤ k → y ≤ k → cond t x y ≤ k
either_low true x y k a b = a
either_low false x y k a b = b

pub month_low : (y : ℤ) (m d : ℕ) → d ≤ days_in_month y m → d ≤ 31
month_low y m d h =
    let feb = either_low (is_leap_year y) 29 28 31 (omega arith) (omega arith) in
    let other = either_low (((m == 4) || (m == 6) || (m == 9)) || (m == 11)) 30 31 31 (omega arith) (omega arith) in
    omega (arith, h, either_low (m == 2) _ _ 31 feb other)

date_is : (y m d : ℕ) (rest : List ℕ) → y ≤ 9999 → m ≤ 99 → d ≤ 99 → date_at ((four y ++ 45 ∷ (two m ++ 45 ∷ two d)) ++ rest) ≡ Some (y, m, d, rest)
date_is y m d rest fy fm fd =
    let sum : y / 100 * 100 + y % 100 ≡ y = omega arith in
    rw (digits2_is (y / 100) (two (y % 100) ++ 45 ∷ (two m ++ 45 ∷ (two d ++ rest))) (omega arith))
    (rw (digits2_is (y % 100) (45 ∷ (two m ++ 45 ∷ (two d ++ rest))) (omega arith))
    (rw (digits2_is m (45 ∷ (two d ++ rest)) fm)
    (rw (digits2_is d rest fd) (rw (sum) refl))))

-- the text of a date from the year 0 on is read as its parts
day_is_read : (front rest : List ℕ) (n : ℤ) (day : IsDay front n) → (y : ℕ) × (day.date.year ≡ pos y) × (date_at (front ++ rest) ≡ Some (y, day.date.month, day.date.day, rest))
day_is_read front rest n day = by day.date.year refl day.year_fits where
  by : (y : ℤ) → day.date.year ≡ y → pos 0 ≤ℤ y → (y : ℕ) × (day.date.year ≡ pos y) × (date_at (front ++ rest) ≡ Some (y, day.date.month, day.date.day, rest))
  by (pos y) is low =
      let spelled : front ≡ four y ++ 45 ∷ (two day.date.month ++ 45 ∷ two day.date.day) = day.spelled ∙ ap (λ (z : ℤ). four (unsigned_abs z) ++ 45 ∷ (two day.date.month ++ 45 ∷ two day.date.day)) is in
      (y, is, ap (λ (l : List ℕ). date_at (l ++ rest)) spelled ∙ date_is y day.date.month day.date.day rest (omega (arith, ints, is, day.date.year_in)) (omega (arith, day.date.month_in)) (omega (arith, month_low day.date.year day.date.month day.date.day day.date.day_in.1)))
  by (negsuc y) is low = absurd (omega (arith, ints, low))

digits3_found : (text : List ℕ) (p : ℕ × List ℕ) → digits3 text ≡ Some p → (text ≡ three p.0 ++ p.1) × (p.0 ≤ 999)
digits3_found [] p e = cc
digits3_found (a ∷ rest) p e =
    let some = guard (is_ascii_digit a) _ p e in
    let ra = digit_range a some.0 in
    let n = mapped (λ (q : ℕ × List ℕ). ((a - 48) * 100 + q.0, q.1)) (digits2 rest) p some.1 in
    let later = digits2_found rest n.0 n.1 in
    let value : (a - 48) * 100 + n.0.0 ≡ p.0 = ap (λ (q : ℕ × List ℕ). q.0) n.2 in
    let high : a ≡ 48 + p.0 / 100 = omega (arith, value, later.1, ra.0, ra.1) in
    let low : n.0.0 ≡ p.0 % 100 = omega (arith, value, later.1, ra.0, ra.1) in
    (ap (λ k. k ∷ rest) high ∙ ap (λ (l : List ℕ). (48 + p.0 / 100) ∷ l) (later.0 ∙ ap (λ k. two k ++ n.0.1) low ∙ ap (λ (q : ℕ × List ℕ). two (p.0 % 100) ++ q.1) n.2), omega (arith, value, later.1, ra.0, ra.1))

digits3_is : (n : ℕ) (rest : List ℕ) → n ≤ 999 → digits3 (three n ++ rest) ≡ Some (n, rest)
digits3_is n rest h =
    let value : (48 + n / 100 - 48) * 100 + n % 100 ≡ n = omega arith in
    rw (digit_is (n / 100) (omega arith), digits2_is (n % 100) rest (omega arith)) (ap (λ k. Some (k, rest)) value)

fraction_found : (text : List ℕ) (p : ℕ × List ℕ) → fraction_at text ≡ Some p → (front : List ℕ) × IsFraction front p.0 × (text ≡ front ++ p.1)
fraction_found [] p e = let is = same_Some _ _ e in ([], inl (refl, ap (λ (q : ℕ × List ℕ). q.0) (sym is)), ap (λ (q : ℕ × List ℕ). q.1) is)
fraction_found (b ∷ bs) p e = by (b == 46) refl e where
  by : (t : Bool) → (b == 46) ≡ t → cond t (digits3 bs) (Some (0, b ∷ bs)) ≡ Some p → (front : List ℕ) × IsFraction front p.0 × (b ∷ bs ≡ front ++ p.1)
  by true is e = let later = digits3_found bs p e in (46 ∷ three p.0, inr (refl, later.1), ap (λ k. k ∷ bs) (eqb-true b 46 is) ∙ ap (λ (l : List ℕ). 46 ∷ l) later.0)
  by false is e = let is = same_Some _ _ e in ([], inl (refl, ap (λ (q : ℕ × List ℕ). q.0) (sym is)), ap (λ (q : ℕ × List ℕ). q.1) is)

end_found : {X : Type 0} (text : List ℕ) (x y : X) → at_end text x ≡ Some y → (text ≡ []) × (x ≡ y)
end_found [] x y e = (refl, same_Some _ _ e)
end_found (b ∷ bs) x y e = let some = guard (length (b ∷ bs) == 0) (Some x) y e in absurd (omega (arith, eqb-true _ _ some.0))

offset_found : (minus : Bool) (text : List ℕ) (z : ℤ) → offset_of minus text ≡ Some z → IsOffset ((if minus then 45 else 43) ∷ text) z
offset_found minus text z e =
    let h = bind _ (up_to 23 (digits2 text)) z e in
    let m = bind _ (up_to 59 (digits2 h.0.1)) z h.2 in
    let end = end_found m.0.1 _ z m.2 in
    let fh = two_found 23 text h.0 h.1 in
    let fm = two_found 59 h.0.1 m.0 m.1 in
    record { minus = minus; hour = h.0.0; minute = m.0.0; hour_fits = fh.1; minute_fits = fm.1; spelled = ap (λ (l : List ℕ). (if minus then 45 else 43) ∷ l) (fh.0 ∙ ap (λ (l : List ℕ). two h.0.0 ++ l) (fm.0 ∙ ap (λ (l : List ℕ). two m.0.0 ++ l) end.0)); value = sym end.1 }

offset_is : (z : ℤ) (text : List ℕ) (o : IsOffset text z) → zone_of text ≡ Some z
offset_is z text o = ap zone_of o.spelled ∙ by o.minus (sym o.value) where
  read : (minus : Bool) → signed minus (o.hour * 60 + o.minute) ≡ z → offset_of minus (two o.hour ++ two o.minute) ≡ Some z
  read minus e = rw (two_is 23 o.hour (two o.minute) o.hour_fits (omega arith)) (rw (two_is 59 o.minute [] o.minute_fits (omega arith)) (ap Some e))

  by : (minus : Bool) → signed minus (o.hour * 60 + o.minute) ≡ z → zone_of ((if minus then 45 else 43) ∷ (two o.hour ++ two o.minute)) ≡ Some z
  by true e = read true e
  by false e = read false e

zone_found : (text : List ℕ) (z : ℤ) → zone_of text ≡ Some z → IsZone text z
zone_found [] z e = cc
zone_found (b ∷ bs) z e = by (b == 90) (b == 43) (b == 45) refl refl refl e where
  by : (s t u : Bool) → (b == 90) ≡ s → (b == 43) ≡ t → (b == 45) ≡ u → cond s (at_end bs (pos 0)) (cond t (offset_of false bs) (cond u (offset_of true bs) None)) ≡ Some z → IsZone (b ∷ bs) z
  by true t u is it iu e = let end = end_found bs (pos 0) z e in inl (ap (λ k. k ∷ bs) (eqb-true b 90 is) ∙ ap (λ (l : List ℕ). 90 ∷ l) end.0, sym end.1)
  by false true u is it iu e = inr (subst (λ k. IsOffset (k ∷ bs) z) (sym (eqb-true b 43 it)) (offset_found false bs z e))
  by false false true is it iu e = inr (subst (λ k. IsOffset (k ∷ bs) z) (sym (eqb-true b 45 iu)) (offset_found true bs z e))
  by false false false is it iu e = cc

fraction_is : (front zone : List ℕ) (ms : ℕ) (z : ℤ) → IsFraction front ms → IsZone zone z → fraction_at (front ++ zone) ≡ Some (ms, zone)
fraction_is front zone ms z (inr f) is = ap (λ (l : List ℕ). fraction_at (l ++ zone)) f.0 ∙ digits3_is ms zone f.1
fraction_is front zone ms z (inl f) is = ap (λ (l : List ℕ). fraction_at (l ++ zone)) f.0 ∙ no_point is ∙ ap (λ k. Some (k, zone)) (sym f.1) where
  at_sign : (minus : Bool) (l : List ℕ) → zone ≡ (if minus then 45 else 43) ∷ l → fraction_at zone ≡ Some (0, zone)
  at_sign true l e = ap fraction_at e ∙ ap (λ (x : List ℕ). Some (0, x)) (sym e)
  at_sign false l e = ap fraction_at e ∙ ap (λ (x : List ℕ). Some (0, x)) (sym e)

  no_point : IsZone zone z → fraction_at zone ≡ Some (0, zone)
  no_point (inl u) = ap fraction_at u.0 ∙ ap (λ (x : List ℕ). Some (0, x)) (sym u.0)
  no_point (inr o) = at_sign o.minus (two o.hour ++ two o.minute) o.spelled

zone_is : (zone : List ℕ) (z : ℤ) → IsZone zone z → zone_of zone ≡ Some z
zone_is zone z (inl u) = ap zone_of u.0 ∙ ap Some (sym u.1)
zone_is zone z (inr o) = offset_is z zone o

-- hh:mm:ss in front, and the rest
record IsHms (text : List ℕ) (p : ℕ × List ℕ) : Type 0 where
  pub hour : ℕ
  pub minute : ℕ
  pub second : ℕ
  pub hour_fits : hour ≤ 23
  pub minute_fits : minute ≤ 59
  pub second_fits : second ≤ 59
  pub spelled : text ≡ two hour ++ 58 ∷ (two minute ++ 58 ∷ (two second ++ p.1))
  pub value : p.0 ≡ (hour * 60 + minute) * 60 + second

hms_found : (text : List ℕ) (p : ℕ × List ℕ) → hms_at text ≡ Some p → IsHms text p
hms_found text p e =
    let h = bind _ (up_to 23 (digits2 text)) p e in
    let r = bind _ (mark 58 h.0.1) p h.2 in
    let m = bind _ (up_to 59 (digits2 r.0)) p r.2 in
    let t = bind _ (mark 58 m.0.1) p m.2 in
    let s = mapped _ (up_to 59 (digits2 t.0)) p t.2 in
    let fh = two_found 23 text h.0 h.1 in
    let fm = two_found 59 r.0 m.0 m.1 in
    let fs = two_found 59 t.0 s.0 s.1 in
    record {
      hour = h.0.0;
      minute = m.0.0;
      second = s.0.0;
      hour_fits = fh.1;
      minute_fits = fm.1;
      second_fits = fs.1;
      spelled = fh.0 ∙ ap (λ (l : List ℕ). two h.0.0 ++ l) (mark_found 58 h.0.1 r.0 r.1 ∙ ap (λ (l : List ℕ). 58 ∷ l) (fm.0 ∙ ap (λ (l : List ℕ). two m.0.0 ++ l) (mark_found 58 m.0.1 t.0 t.1 ∙ ap (λ (l : List ℕ). 58 ∷ l) (fs.0 ∙ ap (λ (q : ℕ × List ℕ). two s.0.0 ++ q.1) s.2))));
      value = ap (λ (q : ℕ × List ℕ). q.0) (sym s.2);
    }

hms_is : (h m s : ℕ) (rest : List ℕ) → h ≤ 23 → m ≤ 59 → s ≤ 59 → hms_at (two h ++ 58 ∷ (two m ++ 58 ∷ (two s ++ rest))) ≡ Some ((h * 60 + m) * 60 + s, rest)
hms_is h m s rest lh lm ls = rw (two_is 23 h (58 ∷ (two m ++ 58 ∷ (two s ++ rest))) lh (omega arith)) (rw (two_is 59 m (58 ∷ (two s ++ rest)) lm (omega arith)) (rw (two_is 59 s rest ls (omega arith)) refl))

clock_found : (text : List ℕ) (c : ℤ) → clock_of text ≡ Some c → ((text ≡ []) × (c ≡ pos 0)) ⊎ IsClock text c
clock_found [] c e = inl (refl, sym (same_Some _ _ e))
clock_found (b ∷ bs) c e =
    let some = guard (b == 84) (option_and_then (λ s. option_and_then (λ f. option_map (λ z. pos (s.0 * 1000 + f.0) -ℤ z *ℤ pos 60000) (zone_of f.1)) (fraction_at s.1)) (hms_at bs)) c e in
    let s = bind _ (hms_at bs) c some.1 in
    let f = bind _ (fraction_at s.0.1) c s.2 in
    let z = mapped _ (zone_of f.0.1) c f.2 in
    let time = hms_found bs s.0 s.1 in
    let part = fraction_found s.0.1 f.0 f.1 in
    inr (record {
      hour = time.hour;
      minute = time.minute;
      second = time.second;
      milli = f.0.0;
      offset = z.0;
      fraction = part.0;
      zone = f.0.1;
      hour_fits = time.hour_fits;
      minute_fits = time.minute_fits;
      second_fits = time.second_fits;
      is_fraction = part.1;
      is_zone = zone_found f.0.1 z.0 z.1;
      spelled = ap (λ k. k ∷ bs) (eqb-true b 84 some.0) ∙ ap (λ (l : List ℕ). 84 ∷ l) (time.spelled ∙ ap (λ (l : List ℕ). two time.hour ++ 58 ∷ (two time.minute ++ 58 ∷ (two time.second ++ l))) part.2);
      value = sym z.2 ∙ ap (λ k. pos (k * 1000 + f.0.0) -ℤ z.0 *ℤ pos 60000) time.value;
    })

clock_is : (text : List ℕ) (c : ℤ) → ((text ≡ []) × (c ≡ pos 0)) ⊎ IsClock text c → clock_of text ≡ Some c
clock_is text c (inl e) = ap clock_of e.0 ∙ ap Some (sym e.1)
clock_is text c (inr k) =
    ap clock_of k.spelled ∙ rw (hms_is k.hour k.minute k.second (k.fraction ++ k.zone) k.hour_fits k.minute_fits k.second_fits) (rw (fraction_is k.fraction k.zone k.milli k.offset k.is_fraction k.is_zone) (rw (zone_is k.zone k.offset k.is_zone) (ap Some (sym k.value))))

-- a text with a date in front, whose day number and time are these
pub datetime_exact : (text : List ℕ) (p : ℕ × ℕ × ℕ × List ℕ) (day : Option ℤ) (v : ℤ) → date_at text ≡ Some p → ((n : ℤ) → (day ≡ Some n) ↔ IsDayOf p.0 p.1 p.2 n) → (instant_of day (clock_of p.3) ≡ Some v) ↔ IsDateTime text v
datetime_exact text p day v read is = (found, back) where
  found : instant_of day (clock_of p.3) ≡ Some v → IsDateTime text v
  found e =
      let d = bind _ day v e in
      let c = mapped _ (clock_of p.3) v d.2 in
      let of = (is d.0).0 d.1 in
      let parts = date_found text p read in
      let year : of.0.year ≡ pos p.0 = of.1.0 in
      let month : of.0.month ≡ p.1 = same_nat of.1.1 in
      let day_is : of.0.day ≡ p.2 = same_nat of.1.2 in
      record {
        day = d.0;
        millis = c.0;
        front = four p.0 ++ 45 ∷ (two p.1 ++ 45 ∷ two p.2);
        clock = p.3;
        is_day = record { date = of.0; year_fits = omega (arith, ints, year); spelled = sym (rw (year, month, day_is) refl); value = of.2 };
        is_clock = clock_found p.3 c.0 c.1;
        spelled = parts.spelled;
        value = sym c.2;
      }

  back : IsDateTime text v → instant_of day (clock_of p.3) ≡ Some v
  back t =
      let read_day = day_is_read t.front t.clock t.day t.is_day in
      let parts : p ≡ (read_day.0, t.is_day.date.month, t.is_day.date.day, t.clock) = same_Some _ _ (sym read ∙ ap date_at t.spelled ∙ read_day.2) in
      let of : IsDayOf p.0 p.1 p.2 t.day = subst (λ (q : ℕ × ℕ × ℕ × List ℕ). IsDayOf q.0 q.1 q.2 t.day) (sym parts) (t.is_day.date, (read_day.1, refl, refl), t.is_day.value) in
      let clock : clock_of p.3 ≡ Some t.millis = ap (λ (q : ℕ × ℕ × ℕ × List ℕ). clock_of q.3) parts ∙ clock_is t.clock t.millis t.is_clock in
      rw ((is t.day).1 of, clock) (ap Some (sym t.value))

-- a text without a date in front
pub datetime_none : (text : List ℕ) (v : ℤ) → date_at text ≡ None → (None ≡ Some v) ↔ IsDateTime text v
datetime_none text v read = (λ e. cc, λ t. absurd (none (sym read ∙ ap date_at t.spelled ∙ (day_is_read t.front t.clock t.day t.is_day).2))) where
  none : {p : ℕ × ℕ × ℕ × List ℕ} → None ≡ Some p → ⊥
  none e = cc
