-- A chain of constants has the same value by the rules of names as by the rules of types.
use Rattle.std.proofs.Common.{◌≡◌, ℕ, suc, ◌+◌, ◌*◌, ◌^◌, ◌<◌, Bool, true, false, not, ◌&&◌, List, [], ◌∷◌, length, Option, Some, None, nat_lt, refl, sym, ap, ◌∙◌, subst, arith, bit_and, bit_or, bit_xor}
use Rattle.std.specs.Bool.{⊤}
use Rattle.std.specs.List.{AllByRecursion}
use Rattle.std.specs.Prelude.{if◌then◌else◌, nat_eq, is_some, option_map, option_and_then}
use Rattle.std.proofs.lemmas.Bool.Decides.{nat_tests}
use Rattle.wf_text.specs.declared.place.Place.{Place}
use Rattle.wf_base.specs.declared.widths.Width.{Width}
use Rattle.wf_base.specs.BaseTable.{bits_of}
use Rattle.wf_ast.specs.declared.operators.Op.{Op}
use Rattle.wf_ast.specs.declared.operators.Op.TheVariants as ops
use Rattle.wf_ast.specs.declared.types.Ty.{Ty}
use Rattle.wf_ast.specs.declared.types.Ty.TheVariants as types
use Rattle.wf_ast.specs.ParsedTree.{ExprTree, LinkTrees, no_link, link}
use Rattle.wf_ast.specs.TypedTree.{Arith, plus, minus, times, divided, remainder, shift_left, shift_right, bits_and, bits_or, bits_xor, mod_plus, mod_minus, mod_times, mod_shift_left, sat_plus, sat_minus, less, at_most, equal, differs, at_least, greater}
use Rattle.wf_ast.specs.TypedTrees.{arithmetic, ordering, joining, operator_kind}
use Rattle.wf_ast.specs.Value.{applied, fitted}
use Rattle.wf_ast.proofs.BoolLemmas.{both}
use Rattle.wf_names_rules.specs.Declarations.{Declared}
use Rattle.wf_names_rules.specs.ConstantValues.{Sized, Valued, Running, bits_or_most, joined_bits, joined_number, shifted_number, started, run_joined, run_on, ended, value_of, links_value}
use Rattle.wf_names_rules.specs.ConstantValues as by_names
use Rattle.wf_types_rules.specs.declared.meanings.Meaning.{Meaning}
use Rattle.wf_types_rules.specs.declared.meanings.Meaning.TheVariants as meanings
use Rattle.wf_types_rules.specs.declared.meanings.Operand.{Operand}
use Rattle.wf_types_rules.specs.Meanings.{is_number, constant_number, width_of}
use Rattle.wf_types_rules.specs.Operands.{first_not, first_of, differs_in, not_of_one_width, common_width, fits_width, bits_in, width_given, joined_numbers, value_of_chain, value_of_two, constant_value, with_number, constants_in, are_taken, constant_of, number_in, computed, meaning_of_operator}
use Rattle.wf_typed_const_laws.specs.OneValue.{sized, HasValue}
use Rattle.wf_typed_const_laws.proofs.Operators.{lt-test, test-lt, one-bits, none-there, fitted-is, fits, Joins, Shifts, joins-minus, joins-divided, joins-remainder, joins-mod-plus, joins-mod-minus, joins-mod-times, joins-sat-plus, joins-sat-minus, shifts-left, shifts-right, shifts-mod-left}

-- ---- widths

first-none : (w : Option Width) → first_of w None ≡ w
first-none None = refl
first-none (Some w) = refl

first-first : (a b c : Option Width) → first_of a (first_of b c) ≡ first_of (first_of a b) c
first-first None b c = refl
first-first (Some a) b c = refl

one-width : (v w : Option Width) → differs_in v w ≡ false → joined_bits (option_map bits_of v) (option_map bits_of w) ≡ Some (option_map bits_of (first_of v w))
one-width None w h = refl
one-width (Some a) None h = refl
one-width (Some a) (Some b) h = by (nat_eq (bits_of a) (bits_of b)) h
  where
    by : (t : Bool) → not t ≡ false → (if t then Some (Some (bits_of a)) else None) ≡ Some (Some (bits_of a))
    by true h = refl
    by false h = absurd (cc h)

same-bits : (a b : Width) → differs_in (Some a) (Some b) ≡ false → bits_of a ≡ bits_of b
same-bits a b h = by (nat_eq (bits_of a) (bits_of b)) refl h
  where
    by : (t : Bool) → nat_eq (bits_of a) (bits_of b) ≡ t → not t ≡ false → bits_of a ≡ bits_of b
    by true e h = grind (arith, nat_tests, e)
    by false e h = absurd (cc h)

-- ---- operands

abbrev AllBelow : ℕ → List ℕ → Type 0
AllBelow most ns = AllByRecursion (λ n. n < most) ns

-- What a test of the head leaves.
record Taken (w : Option Width) (m : Meaning) (os : List Operand) : Type 0 where
  apart : differs_in w (width_of m) ≡ false
  others : not_of_one_width (first_of w (width_of m)) os ≡ None

taken-first : (w : Option Width) (at : Place) (m : Meaning) (os : List Operand)
    → (if not (is_number m) then Some at else if differs_in w (width_of m) then Some at else not_of_one_width (first_of w (width_of m)) os) ≡ None → Taken w m os
taken-first w at m os h = by (not (is_number m)) (differs_in w (width_of m)) refl h
  where
    by : (x y : Bool) → differs_in w (width_of m) ≡ y → (if x then Some at else if y then Some at else not_of_one_width (first_of w (width_of m)) os) ≡ None → Taken w m os
    by true y e h = absurd (cc h)
    by false true e h = absurd (cc h)
    by false false e h = record { apart = e; others = h }

test-first : (at : Place) (x : Bool) (y : Option Place) → (if x then y else Some at) ≡ None → (x ≡ true) × (y ≡ None)
test-first at true y h = (refl, h)
test-first at false y h = absurd (cc h)

-- A constant fits the one width of all operands.
in-width : (v w own : Option Width) (rest : Option Width) (n : ℕ) → n < 2 ^ bits_in own → differs_in w own ≡ false → v ≡ first_of w (first_of own rest)
    → fits_width v (meanings.Constant own n) ≡ true → n < 2 ^ bits_in v
in-width None w None rest n h a e f = h
in-width (Some v) w None rest n h a e f = test-lt n (2 ^ bits_of v) f
in-width v None (Some own) rest n h a e f = let P : Option Width → Type 0 = λ x. n < 2 ^ bits_in x in subst P (sym e) h
in-width v (Some w) (Some own) rest n h a e f =
    let P : Option Width → Type 0 = λ x. n < 2 ^ bits_in x in
    let Q : ℕ → Type 0 = λ b. n < 2 ^ b in
    subst P (sym e) (subst Q (sym (same-bits w own a)) h)

abbrev InWidth : Meaning → Type 0
InWidth (meanings.Constant width n) = n < 2 ^ bits_in width
InWidth (meanings.Typed ty) = ⊤

all-below : (v w : Option Width) (os : List Operand) (ns : List ℕ) → not_of_one_width w os ≡ None → first_not (fits_width v) os ≡ None → v ≡ first_of w (common_width os)
    → AllByRecursion (λ o. InWidth o.of) os → constants_in os ≡ Some ns → AllBelow (2 ^ bits_in v) ns
all-below v w [] ns h f e a c = let same : [] ≡ ns = cc c in subst (AllBelow (2 ^ bits_in v)) same tt
all-below v w (o ∷ os) ns h f e a c = by o.of h f e a.0 (constants_in os) refl c (λ own ks t f e g. all-below v (first_of w own) os ks t f e a.1 g)
  where
    by : (m : Meaning) → (if not (is_number m) then Some o.at else if differs_in w (width_of m) then Some o.at else not_of_one_width (first_of w (width_of m)) os) ≡ None
        → (if fits_width v m then first_not (fits_width v) os else Some o.at) ≡ None → v ≡ first_of w (first_of (width_of m) (common_width os)) → InWidth m
        → (k : Option (List ℕ)) → constants_in os ≡ k → with_number (constant_number m) k ≡ Some ns
        → ((own : Option Width) (ks : List ℕ) → not_of_one_width (first_of w own) os ≡ None → first_not (fits_width v) os ≡ None → v ≡ first_of (first_of w own) (common_width os) → constants_in os ≡ Some ks
        → AllBelow (2 ^ bits_in v) ks)
        → AllBelow (2 ^ bits_in v) ns
    by (meanings.Typed ty) h f e i k g c more = absurd (cc c)
    by (meanings.Constant own n) h f e i None g c more = absurd (cc c)
    by (meanings.Constant own n) h f e i (Some ks) g c more =
        let t = taken-first w o.at (meanings.Constant own n) os h in
        let fit = test-first o.at (fits_width v (meanings.Constant own n)) (first_not (fits_width v) os) f in
        let here = in-width v w own (common_width os) n i t.apart e fit.0 in
        let others = more own ks t.others fit.1 (e ∙ first-first w own (common_width os)) g in
        let same : n ∷ ks ≡ ns = cc c in
        subst (AllBelow (2 ^ bits_in v)) same (here, others)

module _ (d : Declared) (hidden : ℕ → Bool) (known : List Valued) where
  -- The operands of links have these meanings.
  abbrev pub LinksHave : LinkTrees → List Operand → Type 0
  LinksHave no_link [] = ⊤
  LinksHave no_link (o ∷ os) = ⊥
  LinksHave (link sign e others) [] = ⊥
  LinksHave (link sign e others) (o ∷ os) = HasValue (value_of d hidden known e) (Some o.of) × LinksHave others os

  in-width-of : (x : Option Sized) (m : Meaning) → HasValue x (Some m) → InWidth m
  in-width-of x (meanings.Constant width n) h = h.1
  in-width-of x (meanings.Typed ty) h = tt

  in-widths : (links : LinkTrees) (os : List Operand) → LinksHave links os → AllByRecursion (λ o. InWidth o.of) os
  in-widths no_link [] h = tt
  in-widths no_link (o ∷ os) h = absurd h
  in-widths (link sign e others) [] h = absurd h
  in-widths (link sign e others) (o ∷ os) h = (in-width-of (value_of d hidden known e) o.of h.0, in-widths others os h.1)

  -- A chain so far.
  record Runs (r : Option Running) (w : Option Width) (largest n : ℕ) (ns : List ℕ) : Type 0 where
    ends : Running
    is : r ≡ Some ends
    bits : ends.bits ≡ option_map bits_of w
    number : ends.number ≡ n
    below : (most : ℕ) → largest < most → AllBelow most ns → ends.largest < most

  larger-below : (a b most : ℕ) → a < most → b < most → (if nat_lt a b then b else a) < most
  larger-below a b most h k = by (nat_lt a b)
    where
      by : (t : Bool) → (if t then b else a) < most
      by true = k
      by false = h

  ended-run : (r : Option Running) (w : Option Width) (largest n : ℕ) (ns : List ℕ) → Runs r w largest n ns → largest < 2 ^ bits_in w → AllBelow (2 ^ bits_in w) ns → n < 2 ^ bits_in w
      → ended r ≡ Some (sized w n)
  ended-run r w largest n ns run l a h =
      let P : Option ℕ → Type 0 = λ b. run.ends.largest < 2 ^ bits_or_most b in
      let Q : ℕ → Type 0 = λ b. run.ends.largest < 2 ^ b in
      let low : run.ends.largest < 2 ^ bits_or_most run.ends.bits = subst P (sym run.bits) (subst Q (sym (one-bits w)) (run.below (2 ^ bits_in w) l a)) in
      let test : nat_lt run.ends.largest (2 ^ bits_or_most run.ends.bits) ≡ true = lt-test run.ends.largest (2 ^ bits_or_most run.ends.bits) low in
      let whole : ended (Some run.ends) ≡ by_names.fitted run.ends.bits run.ends.number = rw test refl in
      let bits : by_names.fitted run.ends.bits run.ends.number ≡ by_names.fitted (option_map bits_of w) run.ends.number = ap (λ b. by_names.fitted b run.ends.number) run.bits in
      let number : by_names.fitted (option_map bits_of w) run.ends.number ≡ by_names.fitted (option_map bits_of w) n = ap (by_names.fitted (option_map bits_of w)) run.number in
      ap ended run.is ∙ (whole ∙ (bits ∙ (number ∙ fits w n h)))

  -- One more operand of one width.
  joined-on : (op : Op) (w own : Option Width) (largest so_far n v : ℕ) → differs_in w own ≡ false
      → joined_number op (bits_in (first_of w own)) so_far n ≡ Some v
      → run_joined op (record { bits = option_map bits_of w; largest = largest; number = so_far }) (sized own n) (joined_bits (option_map bits_of w) (option_map bits_of own))
      ≡ Some (record { bits = option_map bits_of (first_of w own); largest = if nat_lt largest n then n else largest; number = v })
  joined-on op w own largest so_far n v a j =
      let P : ℕ → Type 0 = λ b. joined_number op b so_far n ≡ Some v in
      let number : joined_number op (bits_or_most (option_map bits_of (first_of w own))) so_far n ≡ Some v = subst P (sym (one-bits (first_of w own))) j in
      rw (one-width w own a, number) refl

  -- Operators of chains.
  module _ (op : Op) (f : ℕ → ℕ → ℕ) (a : Arith) (plain : by_names.is_shift op ≡ false) (step : (bits m n : ℕ) → joined_number op bits m n ≡ Some (f m n))
      (last : (n : ℕ) → joined_numbers a n [] ≡ Some n) (more : (m n : ℕ) (ns : List ℕ) → joined_numbers a m (n ∷ ns) ≡ joined_numbers a (f m n) ns) where
    joined-run : (links : LinkTrees) (os : List Operand) (w : Option Width) (largest so_far : ℕ) (ns : List ℕ) (v : ℕ) → LinksHave links os → not_of_one_width w os ≡ None
        → constants_in os ≡ Some ns → joined_numbers a so_far ns ≡ Some v
        → Runs (links_value d hidden known op (Some (record { bits = option_map bits_of w; largest = largest; number = so_far })) links) (first_of w (common_width os)) largest v ns
    joined-run no_link [] w largest so_far ns v h t c j =
        let none : [] ≡ ns = cc c in
        let P : List ℕ → Type 0 = λ xs. joined_numbers a so_far xs ≡ Some v in
        let same : so_far ≡ v = cc (sym (last so_far) ∙ subst P (sym none) j) in
        record {
          ends = record { bits = option_map bits_of w; largest = largest; number = so_far };
          is = refl;
          bits = ap (option_map bits_of) (sym (first-none w));
          number = same;
          below = λ most l b. l;
        }
    joined-run no_link (o ∷ os) w largest so_far ns v h t c j = absurd h
    joined-run (link sign e others) [] w largest so_far ns v h t c j = absurd h
    joined-run (link sign e others) (o ∷ os) w largest so_far ns v h t c j = by o.of h.0 t (constants_in os) refl c (λ own l m ks t g r. joined-run others os (first_of w own) l m ks v h.1 t g r)
      where
        by : (m : Meaning) → HasValue (value_of d hidden known e) (Some m)
            → (if not (is_number m) then Some o.at else if differs_in w (width_of m) then Some o.at else not_of_one_width (first_of w (width_of m)) os) ≡ None
            → (k : Option (List ℕ)) → constants_in os ≡ k → with_number (constant_number m) k ≡ Some ns
            → ((own : Option Width) (l m : ℕ) (ks : List ℕ) → not_of_one_width (first_of w own) os ≡ None → constants_in os ≡ Some ks → joined_numbers a m ks ≡ Some v
            → Runs (links_value d hidden known op (Some (record { bits = option_map bits_of (first_of w own); largest = l; number = m })) others) (first_of (first_of w own) (common_width os)) l v ks)
            → Runs (links_value d hidden known op (run_on op (Some (record { bits = option_map bits_of w; largest = largest; number = so_far })) (value_of d hidden known e)) others) (first_of w (first_of (width_of m) (common_width os))) largest v ns
        by (meanings.Typed ty) i t k g c deeper = absurd (cc c)
        by (meanings.Constant own n) i t None g c deeper = absurd (cc c)
        by (meanings.Constant own n) i t (Some ks) g c deeper =
            let taken = taken-first w o.at (meanings.Constant own n) os t in
            let same : n ∷ ks ≡ ns = cc c in
            let P : List ℕ → Type 0 = λ xs. joined_numbers a so_far xs ≡ Some v in
            let rest : joined_numbers a (f so_far n) ks ≡ Some v = sym (more so_far n ks) ∙ subst P (sym same) j in
            let next = deeper own (if nat_lt largest n then n else largest) (f so_far n) ks taken.others g rest in
            let r : Running = record { bits = option_map bits_of w; largest = largest; number = so_far } in
            let on : run_on op (Some r) (value_of d hidden known e) ≡ Some (record { bits = option_map bits_of (first_of w own); largest = if nat_lt largest n then n else largest; number = f so_far n }) =
            ap (run_on op (Some r)) i.0 ∙ rw plain (joined-on op w own largest so_far n (f so_far n) taken.apart (step (bits_in (first_of w own)) so_far n)) in
            record {
              ends = next.ends;
              is = ap (λ x. links_value d hidden known op x others) on ∙ next.is;
              bits = next.bits ∙ ap (option_map bits_of) (sym (first-first w own (common_width os)));
              number = next.number;
              below = λ most l b.
                  let Q : List ℕ → Type 0 = λ xs. AllBelow most xs in
                  let parts : AllBelow most (n ∷ ks) = subst Q (sym same) b in
                  next.below most (larger-below largest n most l parts.0) parts.1;
            }

  -- ---- whole chains

  -- What the rules of types ask of an operator that isn't a shift.
  abbrev IsTaken : List Operand → Type 0
  IsTaken os = (not_of_one_width None os ≡ None) × (first_not (fits_width (common_width os)) os ≡ None)

  abbrev Value : Op → ExprTree → LinkTrees → (width : Option Width) → ℕ → Type 0
  Value op first links width v = HasValue (ended (links_value d hidden known op (started (value_of d hidden known first)) links)) (Some (meanings.Constant width v))

  begun : (first : ExprTree) (own : Option Width) (n : ℕ) → value_of d hidden known first ≡ Some (sized own n)
      → started (value_of d hidden known first) ≡ Some (record { bits = option_map bits_of own; largest = n; number = n })
  begun first own n e = ap started e

  counted : (os : List Operand) (ns : List ℕ) → constants_in os ≡ Some ns → length ns ≡ length os
  counted [] ns c = let same : [] ≡ ns = cc c in ap length (sym same)
  counted (o ∷ os) ns c = by o.of (constants_in os) refl c (counted os)
    where
      by : (m : Meaning) (k : Option (List ℕ)) → constants_in os ≡ k → with_number (constant_number m) k ≡ Some ns → ((ks : List ℕ) → constants_in os ≡ Some ks → length ks ≡ length os) → length ns ≡ suc (length os)
      by (meanings.Typed ty) k g c more = absurd (cc c)
      by (meanings.Constant own n) None g c more = absurd (cc c)
      by (meanings.Constant own n) (Some ks) g c more = let same : n ∷ ks ≡ ns = cc c in ap length (sym same) ∙ ap suc (more ks g)

  two : (a : Arith) (bits : ℕ) (ns : List ℕ) (v : ℕ) → value_of_two a bits ns ≡ Some v → length ns ≡ 2
  two a bits [] v e = absurd (cc e)
  two a bits (m ∷ []) v e = absurd (cc e)
  two a bits (m ∷ n ∷ []) v e = refl
  two a bits (m ∷ n ∷ k ∷ ns) v e = absurd (cc e)

  abbrev at-place : Place → Meaning → Operand
  at-place at m = record { at = at; of = m }

  and-then : (bits v : ℕ) (k : Option ℕ) → option_and_then (fitted bits) k ≡ Some v → (k ≡ Some v) × (v < 2 ^ bits)
  and-then bits v None e = absurd (cc e)
  and-then bits v (Some u) e = let f = fitted-is bits u v e in (ap Some f.0, f.1)

  module _ (op : Op) (f : ℕ → ℕ → ℕ) (a : Arith) (plain : by_names.is_shift op ≡ false) (step : (bits m n : ℕ) → joined_number op bits m n ≡ Some (f m n))
      (last : (n : ℕ) → joined_numbers a n [] ≡ Some n) (more : (m n : ℕ) (ns : List ℕ) → joined_numbers a m (n ∷ ns) ≡ joined_numbers a (f m n) ns) where
    joined-chain : (first : ExprTree) (links : LinkTrees) (at : Place) (m : Meaning) (os : List Operand) → HasValue (value_of d hidden known first) (Some m) → LinksHave links os → IsTaken (at-place at m ∷ os)
        → (ns : List ℕ) → constants_in (at-place at m ∷ os) ≡ Some ns → (v : ℕ) → value_of_chain a (bits_in (common_width (at-place at m ∷ os))) ns ≡ Some v
        → Value op first links (common_width (at-place at m ∷ os)) v
    joined-chain first links at (meanings.Typed ty) os h l t ns c v e = absurd (cc c)
    joined-chain first links at (meanings.Constant own n) os h l t ns c v e = by (constants_in os) refl c
      where
        by : (k : Option (List ℕ)) → constants_in os ≡ k → with_number (Some n) k ≡ Some ns → Value op first links (first_of own (common_width os)) v
        by None g c = absurd (cc c)
        by (Some ks) g c =
            let w = first_of own (common_width os) in
            let same : n ∷ ks ≡ ns = cc c in
            let P : List ℕ → Type 0 = λ xs. value_of_chain a (bits_in w) xs ≡ Some v in
            let value = and-then (bits_in w) v (joined_numbers a n ks) (subst P (sym same) e) in
            let taken = taken-first None at (meanings.Constant own n) os t.0 in
            let run = joined-run op f a plain step last more links os own n n ks v l taken.others g value.0 in
            let all = all-below w None (at-place at (meanings.Constant own n) ∷ os) (n ∷ ks) t.0 t.1 refl (h.1, in-widths links os l) (ap (with_number (Some n)) g) in (
              ap (λ r. ended (links_value d hidden known op r links)) (begun first own n h.0)
                  ∙ ended-run (links_value d hidden known op (Some (record { bits = option_map bits_of own; largest = n; number = n })) links) w n v ks run all.0 all.1 value.1,
              value.1,
            )

  -- Operators of two operands of one width.
  module _ (op : Op) (a : Arith) (plain : by_names.is_shift op ≡ false) (joins : Joins op a) where
    plain-pair : (first e : ExprTree) (sign at at_second : Place) (m second : Meaning) → HasValue (value_of d hidden known first) (Some m) → HasValue (value_of d hidden known e) (Some second)
        → IsTaken (at-place at m ∷ at-place at_second second ∷ []) → (ns : List ℕ) → constants_in (at-place at m ∷ at-place at_second second ∷ []) ≡ Some ns → (v : ℕ)
        → value_of_two a (bits_in (common_width (at-place at m ∷ at-place at_second second ∷ []))) ns ≡ Some v
        → Value op first (link sign e no_link) (common_width (at-place at m ∷ at-place at_second second ∷ [])) v
    plain-pair first e sign at at_second (meanings.Typed ty) second h i t ns c v k = absurd (cc c)
    plain-pair first e sign at at_second (meanings.Constant own n) (meanings.Typed ty) h i t ns c v k = absurd (cc c)
    plain-pair first e sign at at_second (meanings.Constant own n) (meanings.Constant other x) h i t ns c v k =
        let w = first_of own (first_of other None) in
        let same : n ∷ x ∷ [] ≡ ns = cc c in
        let P : List ℕ → Type 0 = λ xs. value_of_two a (bits_in w) xs ≡ Some v in
        let value : applied a (bits_in w) n x ≡ Some v = subst P (sym same) k in
        let first_taken = taken-first None at (meanings.Constant own n) (at-place at_second (meanings.Constant other x) ∷ []) t.0 in
        let taken = taken-first own at_second (meanings.Constant other x) [] first_taken.others in
        let all = all-below w None (at-place at (meanings.Constant own n) ∷ at-place at_second (meanings.Constant other x) ∷ []) (n ∷ x ∷ []) t.0 t.1 refl (h.1, (i.1, tt)) refl in
        let j = joins (bits_in w) n x v all.0 all.1.0 value in
        let one : w ≡ first_of own other = ap (first_of own) (first-none other) in
        let Q : Option Width → Type 0 = λ y. joined_number op (bits_in y) n x ≡ Some v in
        let r : Running = record { bits = option_map bits_of own; largest = n; number = n } in
        let on : run_on op (Some r) (value_of d hidden known e) ≡ Some (record { bits = option_map bits_of (first_of own other); largest = if nat_lt n x then x else n; number = v }) =
        ap (run_on op (Some r)) i.0 ∙ rw plain (joined-on op own other n n x v taken.apart (subst Q one j.0)) in
        let run : Runs (run_on op (Some r) (value_of d hidden known e)) w n v (x ∷ []) =
        record {
          ends = record { bits = option_map bits_of (first_of own other); largest = if nat_lt n x then x else n; number = v };
          is = on;
          bits = ap (option_map bits_of) (sym one);
          number = refl;
          below = λ most l b. larger-below n x most l b.0;
        }
        in (
          ap (λ q. ended (links_value d hidden known op q (link sign e no_link))) (begun first own n h.0)
              ∙ ended-run (run_on op (Some r) (value_of d hidden known e)) w n v (x ∷ []) run all.0 all.1 j.1,
          j.1,
        )

    plain-chain : (first : ExprTree) (links : LinkTrees) (o : Operand) (os : List Operand) → HasValue (value_of d hidden known first) (Some o.of) → LinksHave links os → IsTaken (o ∷ os)
        → (ns : List ℕ) → constants_in (o ∷ os) ≡ Some ns → (v : ℕ) → value_of_two a (bits_in (common_width (o ∷ os))) ns ≡ Some v
        → Value op first links (common_width (o ∷ os)) v
    plain-chain first no_link o [] h l t ns c v e =
        let x = two a (bits_in (common_width (o ∷ []))) ns v e in
        let y = counted (o ∷ []) ns c in
        absurd (omega (arith, x, y))
    plain-chain first no_link o (p ∷ os) h l t ns c v e = absurd l
    plain-chain first (link sign k others) o [] h l t ns c v e = absurd l
    plain-chain first (link sign k no_link) o (p ∷ []) h l t ns c v e = plain-pair first k sign o.at p.at o.of p.of h l.0 t ns c v e
    plain-chain first (link sign k no_link) o (p ∷ q ∷ os) h l t ns c v e = absurd l.1
    plain-chain first (link sign k (link s f others)) o (p ∷ []) h l t ns c v e = absurd l.1
    plain-chain first (link sign k (link s f others)) o (p ∷ q ∷ os) h l t ns c v e =
        let x = two a (bits_in (common_width (o ∷ p ∷ q ∷ os))) ns v e in
        let y = counted (o ∷ p ∷ q ∷ os) ns c in
        absurd (omega (arith, x, y))

  -- Shifts.
  module _ (op : Op) (a : Arith) (shift : by_names.is_shift op ≡ true) (shifts : Shifts op a) where
    shift-pair : (first e : ExprTree) (sign at at_second : Place) (m second : Meaning) → HasValue (value_of d hidden known first) (Some m) → HasValue (value_of d hidden known e) (Some second)
        → (ns : List ℕ) → constants_in (at-place at m ∷ at-place at_second second ∷ []) ≡ Some ns → (v : ℕ)
        → value_of_two a (bits_in (width_of m)) ns ≡ Some v → Value op first (link sign e no_link) (width_of m) v
    shift-pair first e sign at at_second (meanings.Typed ty) second h i ns c v k = absurd (cc c)
    shift-pair first e sign at at_second (meanings.Constant own n) (meanings.Typed ty) h i ns c v k = absurd (cc c)
    shift-pair first e sign at at_second (meanings.Constant own n) (meanings.Constant other x) h i ns c v k =
        let same : n ∷ x ∷ [] ≡ ns = cc c in
        let P : List ℕ → Type 0 = λ xs. value_of_two a (bits_in own) xs ≡ Some v in
        let value : applied a (bits_in own) n x ≡ Some v = subst P (sym same) k in
        let j = shifts (bits_in own) n x v value in
        let Q : ℕ → Type 0 = λ b. shifted_number op b n x ≡ Some v in
        let number : shifted_number op (bits_or_most (option_map bits_of own)) n x ≡ Some v = subst Q (sym (one-bits own)) j.0 in
        let r : Running = record { bits = option_map bits_of own; largest = n; number = n } in
        let on : run_on op (Some r) (value_of d hidden known e) ≡ Some (record { bits = option_map bits_of own; largest = n; number = v }) =
        ap (run_on op (Some r)) i.0 ∙ rw (shift, number) refl in
        let run : Runs (run_on op (Some r) (value_of d hidden known e)) own n v [] =
        record { ends = record { bits = option_map bits_of own; largest = n; number = v }; is = on; bits = refl; number = refl; below = λ most l b. l } in (
          ap (λ q. ended (links_value d hidden known op q (link sign e no_link))) (begun first own n h.0)
              ∙ ended-run (run_on op (Some r) (value_of d hidden known e)) own n v [] run h.1 tt j.1,
          j.1,
        )

    shift-chain : (first : ExprTree) (links : LinkTrees) (o : Operand) (os : List Operand) → HasValue (value_of d hidden known first) (Some o.of) → LinksHave links os
        → (ns : List ℕ) → constants_in (o ∷ os) ≡ Some ns → (v : ℕ) → value_of_two a (bits_in (width_of o.of)) ns ≡ Some v → Value op first links (width_of o.of) v
    shift-chain first no_link o [] h l ns c v e =
        let x = two a (bits_in (width_of o.of)) ns v e in
        let y = counted (o ∷ []) ns c in
        absurd (omega (arith, x, y))
    shift-chain first no_link o (p ∷ os) h l ns c v e = absurd l
    shift-chain first (link sign k others) o [] h l ns c v e = absurd l
    shift-chain first (link sign k no_link) o (p ∷ []) h l ns c v e = shift-pair first k sign o.at p.at o.of p.of h l.0 ns c v e
    shift-chain first (link sign k no_link) o (p ∷ q ∷ os) h l ns c v e = absurd l.1
    shift-chain first (link sign k (link s f others)) o (p ∷ []) h l ns c v e = absurd l.1
    shift-chain first (link sign k (link s f others)) o (p ∷ q ∷ os) h l ns c v e =
        let x = two a (bits_in (width_of o.of)) ns v e in
        let y = counted (o ∷ p ∷ q ∷ os) ns c in
        absurd (omega (arith, x, y))

  -- What operators give.
  given-value : (x : Option Sized) (a : Arith) (os : List Operand) (t : Bool)
      → (t ≡ true → (ns : List ℕ) → constants_in os ≡ Some ns → (v : ℕ) → constant_value a (bits_in (width_given a os)) ns ≡ Some v → HasValue x (Some (meanings.Constant (width_given a os) v)))
      → HasValue x (if t then computed a os (constants_in os) else None)
  given-value x a os false h = tt
  given-value x a os true h = by (constants_in os) refl
    where
      by_width : (w : Option Width) → HasValue x (number_in w)
      by_width None = tt
      by_width (Some w) = tt

      by_number : (ns : List ℕ) → constants_in os ≡ Some ns → (v : Option ℕ) → constant_value a (bits_in (width_given a os)) ns ≡ v → HasValue x (constant_of (width_given a os) v)
      by_number ns c None e = tt
      by_number ns c (Some v) e = h refl ns c v e

      by : (k : Option (List ℕ)) → constants_in os ≡ k → HasValue x (computed a os k)
      by None c = by_width (width_given a os)
      by (Some ns) c = by_number ns c (constant_value a (bits_in (width_given a os)) ns) refl

  no-number : (x : Option Sized) (t : Bool) (ty : Ty) → HasValue x (if t then Some (meanings.Typed ty) else None)
  no-number x true ty = tt
  no-number x false ty = tt

  taken-parts : (os : List Operand) → (not (is_some (not_of_one_width None os)) && not (is_some (first_not (fits_width (common_width os)) os))) ≡ true → IsTaken os
  taken-parts os t =
      let parts = both (not (is_some (not_of_one_width None os))) (not (is_some (first_not (fits_width (common_width os)) os))) t in
      (none-there (not_of_one_width None os) parts.0, none-there (first_not (fits_width (common_width os)) os) parts.1)

  module _ (first : ExprTree) (links : LinkTrees) (o : Operand) (os : List Operand) (h : HasValue (value_of d hidden known first) (Some o.of)) (l : LinksHave links os) where
    abbrev value : Op → Option Sized
    value op = ended (links_value d hidden known op (started (value_of d hidden known first)) links)

    by-joined : (op : Op) (f : ℕ → ℕ → ℕ) (a : Arith) → by_names.is_shift op ≡ false → ((bits m n : ℕ) → joined_number op bits m n ≡ Some (f m n))
        → ((n : ℕ) → joined_numbers a n [] ≡ Some n) → ((m n : ℕ) (ns : List ℕ) → joined_numbers a m (n ∷ ns) ≡ joined_numbers a (f m n) ns)
        → (not (is_some (not_of_one_width None (o ∷ os))) && not (is_some (first_not (fits_width (common_width (o ∷ os))) (o ∷ os)))) ≡ true
        → (ns : List ℕ) → constants_in (o ∷ os) ≡ Some ns → (v : ℕ) → value_of_chain a (bits_in (common_width (o ∷ os))) ns ≡ Some v
        → Value op first links (common_width (o ∷ os)) v
    by-joined op f a plain step last more t ns c v e = joined-chain op f a plain step last more first links o.at o.of os h l (taken-parts (o ∷ os) t) ns c v e

    by-pair : (op : Op) (a : Arith) → by_names.is_shift op ≡ false → Joins op a
        → (not (is_some (not_of_one_width None (o ∷ os))) && not (is_some (first_not (fits_width (common_width (o ∷ os))) (o ∷ os)))) ≡ true
        → (ns : List ℕ) → constants_in (o ∷ os) ≡ Some ns → (v : ℕ) → value_of_two a (bits_in (common_width (o ∷ os))) ns ≡ Some v
        → Value op first links (common_width (o ∷ os)) v
    by-pair op a plain joins t ns c v e = plain-chain op a plain joins first links o os h l (taken-parts (o ∷ os) t) ns c v e

    pub chain-value : (op : Op) → HasValue (ended (links_value d hidden known op (started (value_of d hidden known first)) links)) (meaning_of_operator (operator_kind op) (o ∷ os))
    chain-value ops.Add = given-value (value ops.Add) plus (o ∷ os) (are_taken (arithmetic plus) (o ∷ os)) (by-joined ops.Add (λ m n. m + n) plus refl (λ bits m n. refl) (λ n. refl) (λ m n ns. refl))
    chain-value ops.Mul = given-value (value ops.Mul) times (o ∷ os) (are_taken (arithmetic times) (o ∷ os)) (by-joined ops.Mul (λ m n. m * n) times refl (λ bits m n. refl) (λ n. refl) (λ m n ns. refl))
    chain-value ops.BitAnd = given-value (value ops.BitAnd) bits_and (o ∷ os) (are_taken (arithmetic bits_and) (o ∷ os)) (by-joined ops.BitAnd (λ m n. bit_and m n) bits_and refl (λ bits m n. refl) (λ n. refl) (λ m n ns. refl))
    chain-value ops.BitOr = given-value (value ops.BitOr) bits_or (o ∷ os) (are_taken (arithmetic bits_or) (o ∷ os)) (by-joined ops.BitOr (λ m n. bit_or m n) bits_or refl (λ bits m n. refl) (λ n. refl) (λ m n ns. refl))
    chain-value ops.BitXor = given-value (value ops.BitXor) bits_xor (o ∷ os) (are_taken (arithmetic bits_xor) (o ∷ os)) (by-joined ops.BitXor (λ m n. bit_xor m n) bits_xor refl (λ bits m n. refl) (λ n. refl) (λ m n ns. refl))
    chain-value ops.Sub = given-value (value ops.Sub) minus (o ∷ os) (are_taken (arithmetic minus) (o ∷ os)) (by-pair ops.Sub minus refl joins-minus)
    chain-value ops.Div = given-value (value ops.Div) divided (o ∷ os) (are_taken (arithmetic divided) (o ∷ os)) (by-pair ops.Div divided refl joins-divided)
    chain-value ops.Rem = given-value (value ops.Rem) remainder (o ∷ os) (are_taken (arithmetic remainder) (o ∷ os)) (by-pair ops.Rem remainder refl joins-remainder)
    chain-value ops.ModAdd = given-value (value ops.ModAdd) mod_plus (o ∷ os) (are_taken (arithmetic mod_plus) (o ∷ os)) (by-pair ops.ModAdd mod_plus refl joins-mod-plus)
    chain-value ops.ModSub = given-value (value ops.ModSub) mod_minus (o ∷ os) (are_taken (arithmetic mod_minus) (o ∷ os)) (by-pair ops.ModSub mod_minus refl joins-mod-minus)
    chain-value ops.ModMul = given-value (value ops.ModMul) mod_times (o ∷ os) (are_taken (arithmetic mod_times) (o ∷ os)) (by-pair ops.ModMul mod_times refl joins-mod-times)
    chain-value ops.SatAdd = given-value (value ops.SatAdd) sat_plus (o ∷ os) (are_taken (arithmetic sat_plus) (o ∷ os)) (by-pair ops.SatAdd sat_plus refl joins-sat-plus)
    chain-value ops.SatSub = given-value (value ops.SatSub) sat_minus (o ∷ os) (are_taken (arithmetic sat_minus) (o ∷ os)) (by-pair ops.SatSub sat_minus refl joins-sat-minus)
    chain-value ops.Shl = given-value (value ops.Shl) shift_left (o ∷ os) (are_taken (arithmetic shift_left) (o ∷ os)) (λ t ns c v e. shift-chain ops.Shl shift_left refl shifts-left first links o os h l ns c v e)
    chain-value ops.Shr = given-value (value ops.Shr) shift_right (o ∷ os) (are_taken (arithmetic shift_right) (o ∷ os)) (λ t ns c v e. shift-chain ops.Shr shift_right refl shifts-right first links o os h l ns c v e)
    chain-value ops.ModShl = given-value (value ops.ModShl) mod_shift_left (o ∷ os) (are_taken (arithmetic mod_shift_left) (o ∷ os)) (λ t ns c v e. shift-chain ops.ModShl mod_shift_left refl shifts-mod-left first links o os h l ns c v e)
    chain-value ops.And = no-number (value ops.And) (are_taken (joining true) (o ∷ os)) types.Flag
    chain-value ops.Or = no-number (value ops.Or) (are_taken (joining false) (o ∷ os)) types.Flag
    chain-value ops.Same = no-number (value ops.Same) (are_taken (ordering equal) (o ∷ os)) types.Flag
    chain-value ops.Differs = no-number (value ops.Differs) (are_taken (ordering differs) (o ∷ os)) types.Flag
    chain-value ops.Less = no-number (value ops.Less) (are_taken (ordering less) (o ∷ os)) types.Flag
    chain-value ops.LessOrSame = no-number (value ops.LessOrSame) (are_taken (ordering at_most) (o ∷ os)) types.Flag
    chain-value ops.Greater = no-number (value ops.Greater) (are_taken (ordering greater) (o ∷ os)) types.Flag
    chain-value ops.GreaterOrSame = no-number (value ops.GreaterOrSame) (are_taken (ordering at_least) (o ∷ os)) types.Flag
