-- One pass over objects makes the wanted ones zero, where marks say which are wanted.
use Rattle.std.proofs.Common.{◌≡◌, ℕ, zero, suc, ◌+◌, ◌<◌, ◌≤◌, Bool, true, false, List, [], ◌∷◌, ◌++◌, length, map, take, drop, Some, None, refl, sym, subst, ap, ◌∙◌, arith, ◌⊎◌, inl, inr}
use Rattle.std.specs.Prelude.{if◌then◌else◌, ◌||◌, max, nat_eq, nat_lt, slice_get, slice_set, slice_index_or}
use Rattle.std.proofs.lemmas.List.{append_assoc, append-nil, drop_more, take_more, take_more_set, drop-set-lt, take-append-drop, length-set}
use Rattle.std.proofs.lemmas.Bool.Decides.{nat_tests}
use Rattle.c_meaning.specs.CMemory.{Field, cells, part, Object, Memory, part_of, zero_field, parts_of, contains, zeroed_from}
use Rattle.c_mem.specs.Marking.{Marked, MarksOne}

-- Nothing is wanted of a front, or of all.
pub unwanted : (number : ℕ) (wanted : List ℕ) (objects : Memory) → ((k : ℕ) → number ≤ k → k < number + length objects → contains wanted k ≡ false) → zeroed_from number wanted objects ≡ objects
unwanted number wanted [] h = refl
unwanted number wanted (x ∷ xs) h =
    let b : contains wanted number ≡ false = h number (omega arith) (omega arith) in
    ap (λ (t : Bool). (if t then map zero_field x else x) ∷ zeroed_from (number + 1) (if t then parts_of x ++ wanted else wanted) xs) b
    ∙ ap (λ (ys : Memory). x ∷ ys) (unwanted (number + 1) wanted xs (λ k l m. h k (omega (arith, l)) (omega (arith, m))))

pub unwanted_front : (number count : ℕ) (wanted : List ℕ) (objects : Memory) → count ≤ length objects → ((k : ℕ) → number ≤ k → k < number + count → contains wanted k ≡ false)
    → zeroed_from number wanted objects ≡ take count objects ++ zeroed_from (number + count) wanted (drop count objects)
unwanted_front number zero wanted objects le h = let n : number ≡ number + 0 = omega arith in ap (λ (m : ℕ). zeroed_from m wanted objects) n
unwanted_front number (suc count) wanted [] le h = absurd (omega (arith, le))
unwanted_front number (suc count) wanted (x ∷ xs) le h =
    let b : contains wanted number ≡ false = h number (omega arith) (omega arith) in
    let n : (number + 1) + count ≡ number + suc count = omega arith in
    ap (λ (t : Bool). (if t then map zero_field x else x) ∷ zeroed_from (number + 1) (if t then parts_of x ++ wanted else wanted) xs) b
    ∙ ap (λ (ys : Memory). x ∷ ys) (unwanted_front (number + 1) count wanted xs (omega (arith, le)) (λ k l m. h k (omega (arith, l)) (omega (arith, m)))
    ∙ ap (λ (m : ℕ). take count xs ++ zeroed_from m wanted (drop count xs)) n)

-- The pass so far: objects up to `at` are as they come to be, and the marks are those of what is still wanted.
pub record ZeroedSoFar (first : ℕ) (before : Memory) (at last : ℕ) (now : Memory) (marks : List Bool) : Type 0 where
  pub wanted : List ℕ
  pub same : zeroed_from 0 (first ∷ []) before ≡ take at now ++ zeroed_from at wanted (drop at now)
  pub marked : Marked marks at last wanted
  pub within : last < length now
  pub reached : at ≤ last + 1
  pub sizes : length marks ≡ length now
  pub kept : length now ≡ length before

only : (first k : ℕ) → (k ≡ first → ⊥) → contains (first ∷ []) k ≡ false
only first k h = grind (arith, nat_tests, h)

itself : (first : ℕ) → contains (first ∷ []) first ≡ true
itself first = grind (arith, nat_tests)

pub starts : (first : ℕ) (before : Memory) (marks : List Bool) → length marks ≡ length before → slice_get marks first ≡ Some true → first < length marks → ZeroedSoFar first before first first before marks
starts first before marks sizes m h = record {
  wanted = first ∷ [];
  same = unwanted_front 0 first (first ∷ []) before (omega (arith, sizes, h)) (λ k l below. only first k (λ e. omega (arith, e, below))) ∙ ap (λ (n : ℕ). take first before ++ zeroed_from n (first ∷ []) (drop first before)) (let n : 0 + first ≡ first = omega arith in n);
  marked = record {
    up_to = λ k l u. let e : first ≡ k = omega (arith, l, u) in subst (λ (n : ℕ). slice_get marks n ≡ Some (contains (first ∷ []) n)) e (m ∙ ap Some (sym (itself first)));
    behind = λ k l u. only first k (λ e. omega (arith, e, l));
  };
  within = omega (arith, sizes, h);
  reached = omega arith;
  sizes = sizes;
  kept = refl;
}

pub ends : (first : ℕ) (before : Memory) (at last : ℕ) (now : Memory) (marks : List Bool) → ZeroedSoFar first before at last now marks → last < at → now ≡ zeroed_from 0 (first ∷ []) before
ends first before at last now marks z h = sym (z.same
    ∙ (ap (λ (xs : Memory). take at now ++ xs) (unwanted at z.wanted (drop at now) (λ k l u. z.marked.behind k (omega (arith, h, l)) (omega (arith, u, z.sizes, length_rest at now))))
    ∙ take-append-drop at now))
  where
    length_rest : (n : ℕ) (xs : Memory) → n + length (drop n xs) ≤ max n (length xs)
    length_rest zero xs = omega arith
    length_rest (suc n) [] = omega arith
    length_rest (suc n) (x ∷ xs) = omega (arith, length_rest n xs)

wants : (marks : List Bool) (at last : ℕ) (wanted : List ℕ) (b : Bool) → Marked marks at last wanted → at ≤ last → slice_get marks at ≡ Some b → contains wanted at ≡ b
wants marks at last wanted b m h e = let q : Some (contains wanted at) ≡ Some b = sym (m.up_to at (omega arith) h) ∙ e in cc (q)

pub passes : (first : ℕ) (before : Memory) (at last : ℕ) (now : Memory) (marks : List Bool) → ZeroedSoFar first before at last now marks → at ≤ last → slice_get marks at ≡ Some false
    → ZeroedSoFar first before (at + 1) last now marks
passes first before at last now marks z h e = record {
  wanted = z.wanted;
  same =
      let x : Object = slice_index_or now at [] in
      let within : at < length now = omega (arith, h, z.within) in
      let d : drop at now ≡ x ∷ drop (at + 1) now = drop_more now at [] within in
      let t : take (at + 1) now ≡ take at now ++ x ∷ [] = take_more now at [] within in
      let b : contains z.wanted at ≡ false = wants marks at last z.wanted false z.marked h e in
      z.same ∙ (ap (λ (xs : Memory). take at now ++ zeroed_from at z.wanted xs) d
      ∙ (ap (λ (t : Bool). take at now ++ ((if t then map zero_field x else x) ∷ zeroed_from (at + 1) (if t then parts_of x ++ z.wanted else z.wanted) (drop (at + 1) now))) b
      ∙ (sym (append_assoc (take at now) (x ∷ []) (zeroed_from (at + 1) z.wanted (drop (at + 1) now))) ∙ ap (λ (xs : Memory). xs ++ zeroed_from (at + 1) z.wanted (drop (at + 1) now)) (sym t))));
  marked = record { up_to = λ k l u. z.marked.up_to k (omega (arith, l)) u; behind = z.marked.behind };
  within = z.within;
  reached = omega (arith, h);
  sizes = z.sizes;
  kept = z.kept;
}

pub zeroes_one : (first : ℕ) (before : Memory) (at last : ℕ) (now : Memory) (marks later : List Bool) (to : ℕ) (x : Object) → ZeroedSoFar first before at last now marks → at ≤ last → slice_get marks at ≡ Some true
    → slice_get now at ≡ Some x → last ≤ to → to < length later → length later ≡ length marks
    → ((wanted : List ℕ) → Marked marks (at + 1) last wanted → Marked later (at + 1) to (parts_of x ++ wanted))
    → ZeroedSoFar first before (at + 1) to (slice_set now at (map zero_field x)) later
zeroes_one first before at last now marks later to x z h e g more below size next = record {
  wanted = parts_of x ++ z.wanted;
  same =
      let within : at < length now = omega (arith, h, z.within) in
      let y : slice_index_or now at x ≡ x = index_is now at x g in
      let d : drop at now ≡ x ∷ drop (at + 1) now = drop_more now at x within ∙ ap (λ (o : Object). o ∷ drop (at + 1) now) y in
      let t : take (at + 1) (slice_set now at (map zero_field x)) ≡ take at now ++ map zero_field x ∷ [] = take_more_set now at (map zero_field x) within in
      let r : drop (at + 1) (slice_set now at (map zero_field x)) ≡ drop (at + 1) now = drop-set-lt (at + 1) now at (map zero_field x) (omega arith) in
      let b : contains z.wanted at ≡ true = wants marks at last z.wanted true z.marked h e in
      z.same ∙ (ap (λ (xs : Memory). take at now ++ zeroed_from at z.wanted xs) d
      ∙ (ap (λ (t : Bool). take at now ++ ((if t then map zero_field x else x) ∷ zeroed_from (at + 1) (if t then parts_of x ++ z.wanted else z.wanted) (drop (at + 1) now))) b
      ∙ (sym (append_assoc (take at now) (map zero_field x ∷ []) (zeroed_from (at + 1) (parts_of x ++ z.wanted) (drop (at + 1) now)))
      ∙ (ap (λ (xs : Memory). xs ++ zeroed_from (at + 1) (parts_of x ++ z.wanted) (drop (at + 1) now)) (sym t)
      ∙ ap (λ (xs : Memory). take (at + 1) (slice_set now at (map zero_field x)) ++ zeroed_from (at + 1) (parts_of x ++ z.wanted) xs) (sym r)))));
  marked = next z.wanted (record { up_to = λ k l u. z.marked.up_to k (omega (arith, l)) u; behind = z.marked.behind });
  within = omega (arith, below, size, z.sizes, length-set now at (map zero_field x));
  reached = omega (arith, h, more);
  sizes = size ∙ (z.sizes ∙ sym (length-set now at (map zero_field x)));
  kept = length-set now at (map zero_field x) ∙ z.kept;
}
  where
    index_is : (xs : Memory) (i : ℕ) (x : Object) → slice_get xs i ≡ Some x → slice_index_or xs i x ≡ x
    index_is [] i x e = refl
    index_is (y ∷ ys) zero x e = cc (e)
    index_is (y ∷ ys) (suc i) x e = index_is ys i x e

-- One number more among those that are wanted.
more_wanted : (number : ℕ) (wanted : List ℕ) (k : ℕ) → (k ≡ number → ⊥) → contains (number ∷ wanted) k ≡ contains wanted k
more_wanted number wanted k h = let e : nat_eq k number ≡ false = grind (arith, nat_tests, h) in ap (λ (b : Bool). b || contains wanted k) e

newly_wanted : (number : ℕ) (wanted : List ℕ) → contains (number ∷ wanted) number ≡ true
newly_wanted number wanted = let e : nat_eq number number ≡ true = grind (arith, nat_tests) in ap (λ (b : Bool). b || contains wanted number) e

pub equal_or_not : {P : Type 0} (i j : ℕ) → (i ≡ j → P) → ((i ≡ j → ⊥) → P) → P
equal_or_not {P = P} i j same other = by_test (nat_eq i j) refl
  where
    by_test : (b : Bool) → nat_eq i j ≡ b → P
    by_test true e = same (grind (arith, nat_tests, e))
    by_test false e = other (λ q. absurd (grind (arith, nat_tests, e, q)))

pub marks_number : (old new : List Bool) (number from last now : ℕ) (wanted : List ℕ) → MarksOne old number last new now → from ≤ last + 1 → last < length old → number < length old
    → Marked old from last wanted → Marked new from now (number ∷ wanted)
marks_number old new number from last now wanted m f within inside h = record {
  up_to = λ k l u. equal_or_not k number
      (λ e. subst (λ (n : ℕ). slice_get new n ≡ Some (contains (number ∷ wanted) n)) (sym e) (m.marked ∙ ap Some (sym (newly_wanted number wanted))))
      (λ d. at_other k l (omega (arith, u, m.now_is, d)) d);
  behind = λ k l u. more_wanted number wanted k (λ e. omega (arith, e, l, m.now_is)) ∙ h.behind k (omega (arith, l, m.now_is)) (omega (arith, u, m.size));
}
  where
    at_other : (k : ℕ) → from ≤ k → k ≤ max last number → (k ≡ number → ⊥) → slice_get new k ≡ Some (contains (number ∷ wanted) k)
    at_other k l u d = by_place (nat_lt last k) refl
      where
        by_place : (b : Bool) → nat_lt last k ≡ b → slice_get new k ≡ Some (contains (number ∷ wanted) k)
        by_place false e =
            let le : k ≤ last = grind (arith, nat_tests, e) in
            m.others k le d ∙ (h.up_to k l le ∙ ap Some (sym (more_wanted number wanted k d)))
        by_place true e =
            let lt : last < k = grind (arith, nat_tests, e) in
            m.between k lt (omega (arith, u, d, lt)) ∙ ap Some (sym (more_wanted number wanted k d ∙ h.behind k lt (omega (arith, u, d, lt, inside))))

-- Marks for the same numbers.
pub same_wanted : (marks : List Bool) (from last : ℕ) (some others : List ℕ) → ((k : ℕ) → from ≤ k → k < length marks → contains some k ≡ contains others k) → last < length marks
    → Marked marks from last some → from ≤ last + 1 → Marked marks from last others
same_wanted marks from last some others h within m reached = record {
  up_to = λ k l u. m.up_to k l u ∙ ap Some (h k l (omega (arith, u, within)));
  behind = λ k l u. sym (h k (omega (arith, l, reached)) u) ∙ m.behind k l u;
}

-- A number in the middle of a list, and one that no mark stands for.
or_swap : (a b c : Bool) → (a || (b || c)) ≡ (b || (a || c))
or_swap true true c = refl
or_swap true false c = refl
or_swap false b c = refl

middle : (xs ys : List ℕ) (number k : ℕ) → contains (number ∷ (xs ++ ys)) k ≡ contains (xs ++ number ∷ ys) k
middle [] ys number k = refl
middle (x ∷ xs) ys number k = or_swap (nat_eq k number) (nat_eq k x) (contains (xs ++ ys) k) ∙ ap (λ (b : Bool). nat_eq k x || b) (middle xs ys number k)

middle_of : (xs ys : List ℕ) (number k : ℕ) → contains (number ∷ (xs ++ ys)) k ≡ contains ((xs ++ number ∷ []) ++ ys) k
middle_of xs ys number k = middle xs ys number k ∙ ap (λ (zs : List ℕ). contains zs k) (sym (append_assoc xs (number ∷ []) ys))

without : (xs ys : List ℕ) (number k : ℕ) → (k ≡ number → ⊥) → contains (xs ++ ys) k ≡ contains ((xs ++ number ∷ []) ++ ys) k
without xs ys number k h = sym (more_wanted number (xs ++ ys) k h) ∙ middle_of xs ys number k

-- The parts of one field more.
pub parts_append : (xs : Object) (f : Field) → parts_of (xs ++ f ∷ []) ≡ parts_of xs ++ parts_of (f ∷ [])
parts_append [] f = refl
parts_append (cells type them ∷ xs) f = parts_append xs f
parts_append (part number ∷ xs) f = ap (λ (ys : List ℕ). number ∷ ys) (parts_append xs f)

one_more_field : (marks : List Bool) (from last : ℕ) (fields : Object) (f : Field) (wanted : List ℕ) → Marked marks from last ((parts_of fields ++ parts_of (f ∷ [])) ++ wanted) → Marked marks from last (parts_of (fields ++ f ∷ []) ++ wanted)
one_more_field marks from last fields f wanted m = let P : List ℕ → Type 0 = λ ns. Marked marks from last (ns ++ wanted) in subst P (sym (parts_append fields f)) m

-- A field without an object inside, with one that gets no mark, and with one that gets one.
pub no_part : (marks : List Bool) (from last : ℕ) (f : Field) → part_of f ≡ None → (fields : Object) (wanted : List ℕ) → Marked marks from last (parts_of fields ++ wanted) → Marked marks from last (parts_of (fields ++ f ∷ []) ++ wanted)
no_part marks from last (part number) e fields wanted m = absurd (cc (e))
no_part marks from last (cells type them) e fields wanted m = one_more_field marks from last fields (cells type them) wanted
    (let P : List ℕ → Type 0 = λ ns. Marked marks from last (ns ++ wanted) in subst P (sym (append-nil (parts_of fields))) m)

pub part_beyond : (marks : List Bool) (from last number : ℕ) (f : Field) → part_of f ≡ Some number → ((number < from) ⊎ (length marks ≤ number)) → last < length marks → from ≤ last + 1
    → (fields : Object) (wanted : List ℕ) → Marked marks from last (parts_of fields ++ wanted) → Marked marks from last (parts_of (fields ++ f ∷ []) ++ wanted)
part_beyond marks from last number (cells type them) e far within reached fields wanted m = absurd (cc (e))
part_beyond marks from last number (part other) e far within reached fields wanted m = one_more_field marks from last fields (part other) wanted
    (same_wanted marks from last (parts_of fields ++ wanted) ((parts_of fields ++ other ∷ []) ++ wanted)
    (λ k l u. without (parts_of fields) wanted other k (λ q. let n : other ≡ number = cc (e) in beyond far k l u (q ∙ n))) within m reached)
  where
    beyond : (number < from) ⊎ (length marks ≤ number) → (k : ℕ) → from ≤ k → k < length marks → k ≡ number → ⊥
    beyond (inl a) k l u q = omega (arith, a, l, q)
    beyond (inr a) k l u q = omega (arith, a, u, q)

pub part_marked : (old new : List Bool) (from last now number : ℕ) (f : Field) → part_of f ≡ Some number → MarksOne old number last new now → last < length old → from ≤ last + 1 → number < length old
    → (fields : Object) (wanted : List ℕ) → Marked old from last (parts_of fields ++ wanted) → Marked new from now (parts_of (fields ++ f ∷ []) ++ wanted)
part_marked old new from last now number (cells type them) e one within reached inside fields wanted m = absurd (cc (e))
part_marked old new from last now number (part other) e one within reached inside fields wanted m =
    let n : other ≡ number = cc (e) in
    let k : Marked new from now (number ∷ (parts_of fields ++ wanted)) = marks_number old new number from last now (parts_of fields ++ wanted) one reached within inside m in
    let j : Marked new from now ((parts_of fields ++ number ∷ []) ++ wanted) = same_wanted new from now (number ∷ (parts_of fields ++ wanted)) ((parts_of fields ++ number ∷ []) ++ wanted)
    (λ k l u. middle_of (parts_of fields) wanted number k) (omega (arith, one.size, one.now_is, within, inside)) k (omega (arith, one.now_is, reached)) in
    let P : ℕ → Type 0 = λ x. Marked new from now ((parts_of fields ++ x ∷ []) ++ wanted) in
    one_more_field new from now fields (part other) wanted (subst P (sym n) j)
