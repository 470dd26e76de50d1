-- A line read part after part: where one part is of the form its length is told, and the next part is the rest of the line; where one is not,
-- the line is not.
use mathlib.Core.Path.{◌≡◌, refl, sym, ap, ◌∙◌}
use Rattle.std.specs.Prelude.{Option, Some, None, unwrap_or}
use Prim.Native.Nat.{ℕ, ◌+◌, ◌-◌, ◌*◌, ◌/◌, ◌%◌, ◌≤◌}
use native.Mathlib.Omega.{arith}
use mathlib.Core.Bool.{Bool, true, false}
use mathlib.Core.List.{List}
use lib.ListN.{length, take, drop, length-drop}
use lib.Seq.{drop-drop, length-take-le, take_all}
use lib.Dec.{leb, eqb}
use mir.Facts.{leb_yes, eqb_yes}
use Rattle.std.specs.Bool.{then_some}
use Rattle.rules.specs.Tests.{each, unless, first_unmet}
use Rattle.rules.proofs.Cases.{is_true, yes_of, and_left, and_right}
use Rattle.candump.specs.Digits.{between, is_hex, span, stands, number_of, bytes_of}
use Rattle.candump.specs.Lines.{most_seconds, most_name, identifier_digits, most_identifier, most_data_digits, opens, hash, LF, other_form}
use Rattle.candump.specs.declared.Log.{Log}
use Rattle.candump.specs.Reading.{seconds_count, time_length, name_length, from_name, from_identifier, from_data, parts_in, time_form, name_form, identifier_form, data_form, of_form, fields_of, fields_in, since_first, times_refusal, read_refusal, refused_line, read_line, reads}
use Rattle.candump.specs.declared.digits.Class.{Class}
use Rattle.candump.specs.declared.form.Fields.{Fields}
use Rattle.candump.proofs.Fits.{Fit, fit_of}
use Rattle.candump.proofs.Forms.{parts-of-line}
use Rattle.candump.proofs.Pairs.{pairs-length}
use Rattle.candump.proofs.Spans.{span-within}
use Rattle.candump.proofs.Values.{between-range}

-- ---- what a test picks

-- what is told where the form is
pub record Told {X : Type 0} (t : Bool) (v r : X) : Type 0 where
  pub form : t ≡ true
  pub value : r ≡ v

told : {X : Type 0} (t : Bool) (v r : X) → Some r ≡ then_some t v → Told t v r
told true v r e = record { form = refl; value = ap (λ o. unwrap_or o v) e }
told false v r e = absurd (none_some e)
  where
    none_some : {X : Type 0} {r : X} → ◌≡◌ {A = Option X} (Some r) None → ⊥
    none_some e = cc

untold : {X : Type 0} (t : Bool) (v : X) → None ≡ then_some t v → t ≡ false
untold true v e = cc
untold false v e = refl

time-few : (l : List ℕ) → time_form l ≡ true → seconds_count l ≤ 10
unfolding time_form
time-few l e =
    let s = seconds_count l in
    (between-range 1 most_seconds s (and_left (between 1 most_seconds s) _ (and_right (stands l 0 opens) _ (yes_of e)))).1

name-few : (l : List ℕ) → name_form l ≡ true → span Class.Letter l ≤ 15
unfolding name_form
name-few l e = let n = span Class.Letter l in (between-range 1 most_name n (and_left (between 1 most_name n) _ (yes_of e))).1

identifier-low : (l : List ℕ) → identifier_form l ≡ true → number_of 16 (take identifier_digits l) ≤ most_identifier
unfolding identifier_form
identifier-low l e = leb_yes (and_right (stands l identifier_digits hash) _ (and_right (eqb (span Class.Hex l) identifier_digits) _ (yes_of e)))

data-few : (l : List ℕ) → data_form l ≡ true → span Class.Hex l ≤ most_data_digits
unfolding data_form
data-few l e = leb_yes (and_left (leb (span Class.Hex l) most_data_digits) _ (yes_of e))

data-ends : (l : List ℕ) → data_form l ≡ true → length l ≡ span Class.Hex l + 1
unfolding data_form
data-ends l e =
    let n = span Class.Hex l in
    eqb_yes (and_right (stands l n LF) _ (and_right (eqb (n % 2) 0) _ (and_right (leb n most_data_digits) _ (yes_of e))))

-- ---- the time

module _ (l : List ℕ) where
  pub no-time : None ≡ then_some (time_form l) (time_length l) → of_form l ≡ false
  unfolding of_form
  no-time e = rw (untold (time_form l) (time_length l) e)

  module _ (timed : ℕ) (timing : Some timed ≡ then_some (time_form l) (time_length l)) where
    its-time : Told (time_form l) (time_length l) timed
    its-time = told (time_form l) (time_length l) timed timing

    pub timed-within : timed ≤ 20
    timed-within = omega (arith, its-time.value, time-few l its-time.form)

    pub seconds-are : timed - 10 ≡ seconds_count l
    seconds-are = omega (arith, its-time.value)

    pub timed-ten : 10 ≤ timed
    timed-ten = omega (arith, its-time.value)

    behind-time : drop timed l ≡ from_name l
    behind-time = rw its-time.value

    -- ---- the name

    pub no_name : None ≡ then_some (name_form (drop timed l)) (name_length (drop timed l)) → of_form l ≡ false
    unfolding of_form
    no_name e =
        let f = untold (name_form (drop timed l)) (name_length (drop timed l)) e in
        rw (its-time.form, rw behind-time at f)

    module _ (named : ℕ) (naming : Some named ≡ then_some (name_form (drop timed l)) (name_length (drop timed l))) where
      its-name : Told (name_form (drop timed l)) (name_length (drop timed l)) named
      its-name = told (name_form (drop timed l)) (name_length (drop timed l)) named naming

      pub named-within : timed + named ≤ 36
      named-within = omega (arith, timed-within, its-name.value, name-few (drop timed l) its-name.form)

      name-formed : name_form (from_name l) ≡ true
      name-formed = rw behind-time at its-name.form

      behind-name : drop (timed + named) l ≡ from_identifier l
      behind-name = sym (drop-drop named timed l) ∙ rw (its-name.value, behind-time)

      -- ---- the identifier

      pub no-identifier : None ≡ then_some (identifier_form (drop (timed + named) l)) (number_of 16 (take identifier_digits (drop (timed + named) l))) → of_form l ≡ false
      unfolding of_form
      no-identifier e =
          let f = untold (identifier_form (drop (timed + named) l)) _ e in
          rw (its-time.form, name-formed, rw behind-name at f)

      module _ (id : ℕ) (identifying : Some id ≡ then_some (identifier_form (drop (timed + named) l)) (number_of 16 (take identifier_digits (drop (timed + named) l)))) where
        its-identifier : Told (identifier_form (from_identifier l)) (number_of 16 (take identifier_digits (from_identifier l))) id
        its-identifier = rw behind-name at (told (identifier_form (drop (timed + named) l)) _ id identifying)

        pub identifier-is : id ≡ number_of 16 (parts_in l).identifier
        unfolding parts_in
        identifier-is = its-identifier.value

        behind-identifier : drop (timed + named + identifier_digits + 1) l ≡ from_data l
        behind-identifier =
            let e : timed + named + identifier_digits + 1 ≡ (timed + named) + (identifier_digits + 1) = omega arith in
            rw e (sym (drop-drop (identifier_digits + 1) (timed + named) l) ∙ rw behind-name)

        -- ---- the data

        abbrev from : ℕ
        from = timed + named + identifier_digits + 1

        pub no-data : None ≡ then_some (data_form (drop from l)) (span Class.Hex (drop from l)) → of_form l ≡ false
        unfolding of_form
        no-data e =
            let f = untold (data_form (drop from l)) _ e in
            rw (its-time.form, name-formed, its-identifier.form, rw behind-identifier at f)

        module _ (count : ℕ) (counting : Some count ≡ then_some (data_form (drop from l)) (span Class.Hex (drop from l))) where
          its-data : Told (data_form (drop from l)) (span Class.Hex (drop from l)) count
          its-data = told (data_form (drop from l)) _ count counting

          pub count-few : count ≤ 16
          count-few = omega (arith, its-data.value, data-few (drop from l) its-data.form)

          pub all-formed : of_form l ≡ true
          unfolding of_form
          all-formed = rw (its-time.form, name-formed, its-identifier.form, rw behind-identifier at its-data.form)

          abbrev digits : List ℕ
          digits = take (from + count - from) (drop from l)

          its-fit : Fit (parts_in l)
          its-fit = fit_of (parts_in l) (parts-of-line l all-formed).0

          pub payload-is : digits ≡ (parts_in l).payload
          unfolding parts_in
          payload-is =
              let e : from + count - from ≡ count = omega arith in
              rw (e, its-data.value, behind-identifier)

          payload-length : length (parts_in l).payload ≡ count
          unfolding parts_in
          payload-length =
              length-take-le (span Class.Hex (from_data l)) (from_data l) (span-within Class.Hex (from_data l)) ∙ sym (rw behind-identifier at its-data.value)

          pub payload-within : from + count ≤ length l
          payload-within = omega (arith, its-data.value, data-ends (drop from l) its-data.form, length-drop from l)

          pub payload-fits : (each is_hex digits ≡ true) × (length digits ≤ 16) × (length digits % 2 ≡ 0)
          payload-fits =
              rw payload-is
              (is_true _ its-fit.data_hex, leb_yes its-fit.few, eqb_yes its-fit.even)

          pub count-is : count / 2 ≡ length (bytes_of (parts_in l).payload)
          count-is =
              let p = (parts_in l).payload in
              let e : length p % 2 ≡ 0 = eqb_yes its-fit.even in
              let t : take (count / 2 * 2) p ≡ p = take_all (count / 2 * 2) p (omega (arith, payload-length, e)) in
              sym (rw t at (pairs-length (count / 2) p (omega (arith, payload-length))))

-- ---- the whole

-- fields are told where the line is of the form, and are those of its parts
pub read_on : (log : Option Log) (l : List ℕ) (f : Fields) → Some f ≡ fields_in l
    → unless (times_refusal (since_first log f.time) f.time) (refused_line log) (read_line log f) ≡ reads log l
unfolding reads read_refusal first_unmet times_refusal fields_in fields_of
read_on log l f e =
    let t = told (of_form l) (fields_of (parts_in l)) f e in
    rw (t.form, t.value) refl

pub read_none : (log : Option Log) (l : List ℕ) → None ≡ fields_in l → refused_line log other_form ≡ reads log l
unfolding reads read_refusal first_unmet fields_in
read_none log l e = rw (untold (of_form l) (fields_of (parts_in l)) e) refl
