-- Receivers as they are made stand apart.
use Rattle.std.proofs.Common.{◌≡◌, ℕ, zero, suc, ◌+◌, ◌<◌, ◌≤◌, Bool, true, false, List, [], ◌∷◌, ◌++◌, map, replicate, Option, Some, None, refl, sym, subst, ap, ◌∙◌, arith, length, length-append}
use Rattle.std.specs.Prelude.{if◌then◌else◌, ◌&&◌, ◌||◌, nat_lt, nat_le, bytes_eq, slice_get, option_map}
use Rattle.std.specs.Option.{option_map_or}
use Rattle.std.proofs.lemmas.Bool.{ltb-true, lt-ltb, leb-true}
use Rattle.std.proofs.lemmas.Bool.Decides.{nat_tests}
use Rattle.std.proofs.lemmas.Option.{slice_get_past, slice_get-map}
use Rattle.wf_text.specs.Surface.{Surface, PublicStruct}
use Rattle.wf_text.specs.HostActions.{Receiver}
use Rattle.wf_base.specs.LawfulActions.{struct_numbered}
use Rattle.c_text.specs.declared.kinds.CNumber.{CNumber}
use Rattle.c_text.specs.CTree.{FieldKind, plain, inside as part_kind, FieldTree}
use Rattle.c_meaning.specs.CMemory.{CellType, u8, u16, u32, u64, flag, pointer, Object, Memory, zero_cell}
use Rattle.c_meaning.specs.CTypes.{StructDecl, TextDecl}
use Rattle.c_meaning.specs.CExprs.{cell_type}
use Rattle.c_meaning.specs.CCall.{Program}
use Rattle.c_meaning.specs.CRun.{text_object, count_of, Laid, laid_kind, laid_out, whole_object, no_fields, struct_objects, struct_name, receiver_objects, receiver_pointer, make_receivers}
use Rattle.c_meaning.specs.Reach.{CellIn, CellsIn, ObjectIn, FoundIn, OptionIn}
use Rattle.c_meaning.specs.Typed.{CellFits, CellsFit, ObjectFits, IsTyped, object_shape, shape_of}
use Rattle.c_meaning.specs.Apart.{Extent, extents, extents_of, is_own, reached, IsString, StandApart}
use Rattle.c_meaning.proofs.ApartSteps.{string_in}

-- New objects: zero cells, and parts among the new objects.
module _ (inside : ℕ → Bool) where
  abbrev ObjectsIn : List Object → Type 0
  ObjectsIn [] = Unit {0}
  ObjectsIn (object ∷ objects) = ObjectIn inside object × ObjectsIn objects

  record Covers (from count : ℕ) : Type 0 where
    by : (n : ℕ) → from ≤ n → n < from + count → inside n ≡ true

  append_objects : (xs ys : List Object) → ObjectsIn xs → ObjectsIn ys → ObjectsIn (xs ++ ys)
  append_objects [] ys h k = k
  append_objects (x ∷ xs) ys h k = (h.0, append_objects xs ys h.1 k)

  zero_in : (type : CellType) → CellIn inside (zero_cell type)
  zero_in u8 = tt
  zero_in u16 = tt
  zero_in u32 = tt
  zero_in u64 = tt
  zero_in flag = tt
  zero_in pointer = tt

  zeros_in : (type : CellType) (count : ℕ) → CellsIn inside (replicate count (zero_cell type))
  zeros_in type zero = tt
  zeros_in type (suc count) = (zero_in type, zeros_in type count)

  record LaidIn (laid : Laid) : Type 0 where
    fields : ObjectIn inside laid.fields
    objects : ObjectsIn laid.inside

  module _ (objects : List ℕ → ℕ → List Object) (objects_in : (name : List ℕ) (from : ℕ) → Covers from (length (objects name from)) → ObjectsIn (objects name from)) (some : (name : List ℕ) (from : ℕ) → 0 < length (objects name from)) where
    kind_in : (k : FieldKind) (count : Option CNumber) (from : ℕ) (rest : ℕ → Laid) → ((next : ℕ) → Covers next (length (rest next).inside) → LaidIn (rest next))
        → Covers from (length (laid_kind objects k count from rest).inside) → LaidIn (laid_kind objects k count from rest)
    kind_in (plain t) count from rest h c = record { fields = (zeros_in (cell_type t) (count_of count), (h from c).fields); objects = (h from c).objects }
    kind_in (part_kind name) count from rest h c =
        record { fields = (c.by from (omega arith) (omega (arith, some name from, longer)), behind.fields); objects = append_objects (objects name from) _ (objects_in name from front) behind.objects }
      where
        them : List Object
        them = objects name from

        others : List Object
        others = (rest (from + length (objects name from))).inside

        longer : length (them ++ others) ≡ length them + length others
        longer = length-append them others

        front : Covers from (length (objects name from))
        front = record { by = λ n a b. c.by n a (omega (arith, b, longer)) }

        behind : LaidIn (rest (from + length (objects name from)))
        behind = h (from + length (objects name from)) (record { by = λ n a b. c.by n (omega (arith, a)) (omega (arith, b, longer)) })

    laid_in : (fields : List FieldTree) (from : ℕ) → Covers from (length (laid_out objects fields from).inside) → LaidIn (laid_out objects fields from)
    laid_in [] from c = record { fields = tt; objects = tt }
    laid_in (f ∷ fs) from c = kind_in f.kind f.count from (laid_out objects fs) (laid_in fs) c

  whole_in : (laid : Laid) (from : ℕ) → (Covers (from + 1) (length laid.inside) → LaidIn laid) → Covers from (length (whole_object laid)) → ObjectsIn (whole_object laid)
  whole_in laid from h c =
      let l : LaidIn laid = h (record { by = λ n a b. c.by n (omega (arith, a)) (omega (arith, b)) }) in (l.fields, l.objects)

  if_in : (b : Bool) (one other : ℕ → List Object) → ((from : ℕ) → Covers from (length (one from)) → ObjectsIn (one from)) → ((from : ℕ) → Covers from (length (other from)) → ObjectsIn (other from))
      → (from : ℕ) → Covers from (length ((if b then one else other) from)) → ObjectsIn ((if b then one else other) from)
  if_in true one other h k = h
  if_in false one other h k = k

  struct_in : (structs : List StructDecl) (name : List ℕ) (from : ℕ) → Covers from (length (struct_objects structs name from)) → ObjectsIn (struct_objects structs name from)
  struct_in [] name from c = (tt, tt)
  struct_in (s ∷ ss) name from c = if_in (bytes_eq s.name name) (λ first. whole_object (laid_out (struct_objects ss) s.fields (first + 1))) (struct_objects ss name)
      (λ first d. whole_in (laid_out (struct_objects ss) s.fields (first + 1)) first (laid_in (struct_objects ss) (struct_in ss) (some_objects ss) s.fields (first + 1)) d) (struct_in ss name) from c
    where
      if_some : (b : Bool) (one other : ℕ → List Object) (first : ℕ) → 0 < length (one first) → 0 < length (other first) → 0 < length ((if b then one else other) first)
      if_some true one other first h k = h
      if_some false one other first h k = k

      some_objects : (structs : List StructDecl) (name : List ℕ) (first : ℕ) → 0 < length (struct_objects structs name first)
      some_objects [] name first = omega arith
      some_objects (s ∷ ss) name first = if_some (bytes_eq s.name name) _ (struct_objects ss name) first (omega arith) (some_objects ss name first)

if_some : (b : Bool) (one other : ℕ → List Object) (first : ℕ) → 0 < length (one first) → 0 < length (other first) → 0 < length ((if b then one else other) first)
if_some true one other first h k = h
if_some false one other first h k = k

some_objects : (structs : List StructDecl) (name : List ℕ) (first : ℕ) → 0 < length (struct_objects structs name first)
some_objects [] name first = omega arith
some_objects (s ∷ ss) name first = if_some (bytes_eq s.name name) (λ from. whole_object (laid_out (struct_objects ss) s.fields (from + 1))) (struct_objects ss name) first (omega arith) (some_objects ss name first)

-- New objects are typed.
zero_fits : (type : CellType) → CellFits type (zero_cell type)
zero_fits u8 = omega arith
zero_fits u16 = omega arith
zero_fits u32 = omega arith
zero_fits u64 = omega arith
zero_fits flag = omega arith
zero_fits pointer = tt

zeros_fit : (type : CellType) (count : ℕ) → CellsFit type (replicate count (zero_cell type))
zeros_fit type zero = tt
zeros_fit type (suc count) = (zero_fits type, zeros_fit type count)

append_typed : (xs ys : List Object) → IsTyped xs → IsTyped ys → IsTyped (xs ++ ys)
append_typed [] ys h k = k
append_typed (x ∷ xs) ys h k = (h.0, append_typed xs ys h.1 k)

record LaidFits (laid : Laid) : Type 0 where
  fields : ObjectFits laid.fields
  objects : IsTyped laid.inside

module _ (objects : List ℕ → ℕ → List Object) (objects_fit : (name : List ℕ) (from : ℕ) → IsTyped (objects name from)) where
  kind_fits : (k : FieldKind) (count : Option CNumber) (from : ℕ) (rest : ℕ → Laid) → ((next : ℕ) → LaidFits (rest next)) → LaidFits (laid_kind objects k count from rest)
  kind_fits (plain t) count from rest h = record { fields = (zeros_fit (cell_type t) (count_of count), (h from).fields); objects = (h from).objects }
  kind_fits (part_kind name) count from rest h = record { fields = (tt, (h (from + length (objects name from))).fields); objects = append_typed (objects name from) _ (objects_fit name from) (h (from + length (objects name from))).objects }

  laid_fits : (fields : List FieldTree) (from : ℕ) → LaidFits (laid_out objects fields from)
  laid_fits [] from = record { fields = tt; objects = tt }
  laid_fits (f ∷ fs) from = kind_fits f.kind f.count from (laid_out objects fs) (laid_fits fs)

if_fits : (b : Bool) (one other : ℕ → List Object) (from : ℕ) → IsTyped (one from) → IsTyped (other from) → IsTyped ((if b then one else other) from)
if_fits true one other from h k = h
if_fits false one other from h k = k

struct_fits : (structs : List StructDecl) (name : List ℕ) (from : ℕ) → IsTyped (struct_objects structs name from)
struct_fits [] name from = (tt, tt)
struct_fits (s ∷ ss) name from = if_fits (bytes_eq s.name name) (λ first. whole_object (laid_out (struct_objects ss) s.fields (first + 1))) (struct_objects ss name) from
    (let l : LaidFits (laid_out (struct_objects ss) s.fields (from + 1)) = laid_fits (struct_objects ss) (struct_fits ss) s.fields (from + 1) in (l.fields, l.objects)) (struct_fits ss name from)

-- Ranges of numbers.
both_hold : (a b : Bool) → (a && b) ≡ true → (a ≡ true) × (b ≡ true)
both_hold true b e = (refl, e)
both_hold false b e = absurd (cc (e))

own_range : (e : Extent) (n : ℕ) → is_own (Some e) n ≡ true → (e.first ≤ n) × (n < e.first + e.count)
own_range e n h = let b = both_hold (nat_le e.first n) (nat_lt n (e.first + e.count)) h in (leb-true e.first n b.0, ltb-true n (e.first + e.count) b.1)

range_own : (e : Extent) (n : ℕ) → e.first ≤ n → n < e.first + e.count → is_own (Some e) n ≡ true
range_own e n h k =
    let a : nat_le e.first n ≡ true = grind (arith, nat_tests) in
    let b : nat_lt n (e.first + e.count) ≡ true = lt-ltb n (e.first + e.count) k in rw (a, b) refl

found_get : (inside : ℕ → Bool) (objects : List Object) (n : ℕ) → ObjectsIn inside objects → FoundIn inside (slice_get objects n)
found_get inside [] n h = tt
found_get inside (x ∷ xs) zero h = h.0
found_get inside (x ∷ xs) (suc n) h = found_get inside xs n h.1

found_behind : (inside : ℕ → Bool) (memory : Memory) (objects : List Object) (n : ℕ) → ObjectsIn inside objects → length memory ≤ n → FoundIn inside (slice_get (memory ++ objects) n)
found_behind inside [] objects n h l = found_get inside objects n h
found_behind inside (x ∷ xs) objects zero h l = absurd (omega (arith, l))
found_behind inside (x ∷ xs) objects (suc n) h l = found_behind inside xs objects n h (omega (arith, l))

get_front : (memory : Memory) (objects : List Object) (n : ℕ) → n < length memory → slice_get (memory ++ objects) n ≡ slice_get memory n
get_front [] objects n h = absurd (omega (arith, h))
get_front (x ∷ xs) objects zero h = refl
get_front (x ∷ xs) objects (suc n) h = get_front xs objects n (omega (arith, h))

module _ (p : Program) (surface : Surface) where
  abbrev new : Receiver → ℕ → List Object
  new receiver first = receiver_objects p surface receiver first

  numbered_in : (inside : ℕ → Bool) (found : Option PublicStruct) (first : ℕ) → Covers inside first (length (option_map_or (λ it. struct_objects p.structs (struct_name surface it) first) found no_fields)) → ObjectsIn inside (option_map_or (λ it. struct_objects p.structs (struct_name surface it) first) found no_fields)
  numbered_in inside None first c = (tt, tt)
  numbered_in inside (Some it) first c = struct_in inside p.structs (struct_name surface it) first c

  new_in : (inside : ℕ → Bool) (receiver : Receiver) (first : ℕ) → Covers inside first (length (new receiver first)) → ObjectsIn inside (new receiver first)
  new_in inside receiver first c = by_null receiver.null c
    where
      by_null : (b : Bool) → Covers inside first (length (if b then [] else option_map_or (λ it. struct_objects p.structs (struct_name surface it) first) (struct_numbered surface receiver.struct_number) no_fields))
          → ObjectsIn inside (if b then [] else option_map_or (λ it. struct_objects p.structs (struct_name surface it) first) (struct_numbered surface receiver.struct_number) no_fields)
      by_null true d = tt
      by_null false d = numbered_in inside (struct_numbered surface receiver.struct_number) first d

  numbered_fits : (found : Option PublicStruct) (first : ℕ) → IsTyped (option_map_or (λ it. struct_objects p.structs (struct_name surface it) first) found no_fields)
  numbered_fits None first = (tt, tt)
  numbered_fits (Some it) first = struct_fits p.structs (struct_name surface it) first

  new_fits : (receiver : Receiver) (first : ℕ) → IsTyped (new receiver first)
  new_fits receiver first = by_null receiver.null
    where
      by_null : (b : Bool) → IsTyped (if b then [] else option_map_or (λ it. struct_objects p.structs (struct_name surface it) first) (struct_numbered surface receiver.struct_number) no_fields)
      by_null true = tt
      by_null false = numbered_fits (struct_numbered surface receiver.struct_number) first

  numbered_some : (found : Option PublicStruct) (first : ℕ) → 0 < length (option_map_or (λ it. struct_objects p.structs (struct_name surface it) first) found no_fields)
  numbered_some None first = omega arith
  numbered_some (Some it) first = some_objects p.structs (struct_name surface it) first

  abbrev grown : List Receiver → Memory → Memory
  grown receivers memory = (make_receivers p surface receivers memory).memory

  grown_typed : (receivers : List Receiver) (memory : Memory) → IsTyped memory → IsTyped (grown receivers memory)
  grown_typed [] memory h = h
  grown_typed (r ∷ rs) memory h = grown_typed rs (memory ++ new r (length memory)) (append_typed memory (new r (length memory)) h (new_fits r (length memory)))

  grown_front : (receivers : List Receiver) (memory : Memory) (n : ℕ) → n < length memory → slice_get (grown receivers memory) n ≡ slice_get memory n
  grown_front [] memory n h = refl
  grown_front (r ∷ rs) memory n h = grown_front rs (memory ++ new r (length memory)) n (omega (arith, h, length-append memory (new r (length memory)))) ∙ get_front memory (new r (length memory)) n h

  grown_longer : (receivers : List Receiver) (memory : Memory) → length memory ≤ length (grown receivers memory)
  grown_longer [] memory = omega arith
  grown_longer (r ∷ rs) memory = let h : length (memory ++ new r (length memory)) ≤ length (grown rs (memory ++ new r (length memory))) = grown_longer rs (memory ++ new r (length memory)) in omega (arith, h, length-append memory (new r (length memory)))

  abbrev own : List Receiver → Memory → ℕ → ℕ → Bool
  own receivers memory k n = is_own (slice_get (extents p surface receivers memory) k) n

  abbrev extent : Receiver → Memory → Extent
  extent r memory = record { first = length memory; count = length (new r (length memory)) }

  own_behind : (receivers : List Receiver) (memory : Memory) (k n : ℕ) → own receivers memory k n ≡ true → length memory ≤ n
  own_behind [] memory k n h = absurd (cc (h))
  own_behind (r ∷ rs) memory zero n h = (own_range (extent r memory) n h).0
  own_behind (r ∷ rs) memory (suc k) n h = let l : length (memory ++ new r (length memory)) ≤ n = own_behind rs (memory ++ new r (length memory)) k n h in omega (arith, l, length-append memory (new r (length memory)))

  own_before : (receivers : List Receiver) (memory : Memory) (k n : ℕ) → own receivers memory k n ≡ true → n < length (grown receivers memory)
  own_before [] memory k n h = absurd (cc (h))
  own_before (r ∷ rs) memory zero n h =
      let l : length (memory ++ new r (length memory)) ≤ length (grown rs (memory ++ new r (length memory))) = grown_longer rs (memory ++ new r (length memory)) in
      let e : n < length memory + length (new r (length memory)) = (own_range (extent r memory) n h).1 in omega (arith, l, e, length-append memory (new r (length memory)))
  own_before (r ∷ rs) memory (suc k) n h = own_before rs (memory ++ new r (length memory)) k n h

  not_true : (b : Bool) → (b ≡ true → ⊥) → b ≡ false
  not_true true h = absurd (h refl)
  not_true false h = refl

  own_apart : (receivers : List Receiver) (memory : Memory) (j k n : ℕ) → (j ≡ k → ⊥) → own receivers memory j n ≡ true → own receivers memory k n ≡ false
  own_apart [] memory j k n d h = absurd (cc (h))
  own_apart (r ∷ rs) memory zero zero n d h = absurd (d refl)
  own_apart (r ∷ rs) memory zero (suc k) n d h = not_true (own rs (memory ++ new r (length memory)) k n) (λ g.
      let l : length (memory ++ new r (length memory)) ≤ n = own_behind rs (memory ++ new r (length memory)) k n g in
      let e : n < length memory + length (new r (length memory)) = (own_range (extent r memory) n h).1 in absurd (omega (arith, l, e, length-append memory (new r (length memory)))))
  own_apart (r ∷ rs) memory (suc j) zero n d h = not_true (is_own (Some (extent r memory)) n) (λ g.
      let l : length (memory ++ new r (length memory)) ≤ n = own_behind rs (memory ++ new r (length memory)) j n h in
      let e : n < length memory + length (new r (length memory)) = (own_range (extent r memory) n g).1 in absurd (omega (arith, l, e, length-append memory (new r (length memory)))))
  own_apart (r ∷ rs) memory (suc j) (suc k) n d h = own_apart rs (memory ++ new r (length memory)) j k n (λ e. d (ap suc e)) h

  own_found : (inside : ℕ → Bool) (receivers : List Receiver) (memory : Memory) (k n : ℕ) → ((x : ℕ) → own receivers memory k x ≡ true → inside x ≡ true) → own receivers memory k n ≡ true → FoundIn inside (slice_get (grown receivers memory) n)
  own_found inside [] memory k n c h = absurd (cc (h))
  own_found inside (r ∷ rs) memory zero n c h =
      let e = own_range (extent r memory) n h in
      let l : n < length (memory ++ new r (length memory)) = omega (arith, e.1, length-append memory (new r (length memory))) in
      rw (grown_front rs (memory ++ new r (length memory)) n l)
      (found_behind inside memory (new r (length memory)) n (new_in inside r (length memory) (record { by = λ x a b. c x (range_own (extent r memory) x a b) })) e.0)
  own_found inside (r ∷ rs) memory (suc k) n c h = own_found inside rs (memory ++ new r (length memory)) k n c h

  pub pointer_in : (inside : ℕ → Bool) (receivers : List Receiver) (memory : Memory) (k : ℕ) → ((x : ℕ) → own receivers memory k x ≡ true → inside x ≡ true) → OptionIn inside (slice_get (make_receivers p surface receivers memory).pointers k)
  pointer_in inside [] memory k c = tt
  pointer_in inside (r ∷ rs) memory (suc k) c = pointer_in inside rs (memory ++ new r (length memory)) k c
  pointer_in inside (r ∷ rs) memory zero c = by_null r.null refl
    where
      by_null : (b : Bool) → r.null ≡ b → OptionIn inside (Some (receiver_pointer r (length memory)))
      by_null true e = rw e tt
      by_null false e =
          let l : length (new r (length memory)) ≡ length (option_map_or (λ it. struct_objects p.structs (struct_name surface it) (length memory)) (struct_numbered surface r.struct_number) no_fields) = rw e refl in
          let s : 0 < length (new r (length memory)) = omega (arith, l, numbered_some (struct_numbered surface r.struct_number) (length memory)) in
          rw e (c (length memory) (range_own (extent r memory) (length memory) (omega arith) (omega (arith, s))))

  -- The strings are the first objects.
  text_strings : (texts : List TextDecl) (n : ℕ) → n < length texts → IsString (slice_get (shape_of (map text_object texts)) n)
  text_strings [] n h = absurd (omega (arith, h))
  text_strings (t ∷ ts) zero h = tt
  text_strings (t ∷ ts) (suc n) h = text_strings ts n (omega (arith, h))

  string_shape : (memory now : Memory) (n : ℕ) → slice_get now n ≡ slice_get memory n → IsString (slice_get (shape_of memory) n) → IsString (slice_get (shape_of now) n)
  string_shape memory now n e h =
      let s : slice_get (shape_of now) n ≡ slice_get (shape_of memory) n = slice_get-map object_shape now n ∙ (ap (option_map object_shape) e ∙ sym (slice_get-map object_shape memory n)) in
      subst IsString (sym s) h

  length_texts : (texts : List TextDecl) → length (map text_object texts) ≡ length texts
  length_texts [] = refl
  length_texts (t ∷ ts) = ap suc (length_texts ts)

  or_second : (a b c : Bool) → b ≡ true → (a || (b || c)) ≡ true
  or_second true b c e = refl
  or_second false b c e = rw e refl

  or_third : (a b c : Bool) → c ≡ true → (a || (b || c)) ≡ true
  or_third true b c e = refl
  or_third false true c e = refl
  or_third false false c e = e

  or_none : (a b c : Bool) → a ≡ false → b ≡ false → (a || (b || c)) ≡ true → c ≡ true
  or_none a b c e f h = rw (e, f) at h

  module _ (receivers : List Receiver) (texts_fit : IsTyped (map text_object p.texts)) where
    abbrev memory : Memory
    memory = grown receivers (map text_object p.texts)

    abbrev all : List Extent
    all = extents_of p surface receivers

    abbrev inside : ℕ → ℕ → Bool
    inside k n = reached (length p.texts) (length memory) (slice_get all k) n

    strings : (n : ℕ) → n < length p.texts → IsString (slice_get (shape_of memory) n)
    strings n h = string_shape (map text_object p.texts) memory n (grown_front receivers (map text_object p.texts) n (omega (arith, h, length_texts p.texts))) (text_strings p.texts n h)

    typed : IsTyped memory
    typed = grown_typed receivers (map text_object p.texts) texts_fit

    closed : (k n : ℕ) → inside k n ≡ true → FoundIn (inside k) (slice_get memory n)
    closed k n e = by_text (nat_lt n (length p.texts)) refl
      where
        by_own : (b : Bool) → is_own (slice_get all k) n ≡ b → nat_lt n (length p.texts) ≡ false → FoundIn (inside k) (slice_get memory n)
        by_own true o t = own_found (inside k) receivers (map text_object p.texts) k n (λ x h. or_second (nat_lt x (length p.texts)) (is_own (slice_get all k) x) (nat_le (length memory) x) h) o
        by_own false o t = let l : length memory ≤ n = leb-true (length memory) n (or_none (nat_lt n (length p.texts)) (is_own (slice_get all k) n) (nat_le (length memory) n) t o e) in rw (slice_get_past memory n l) tt

        by_text : (b : Bool) → nat_lt n (length p.texts) ≡ b → FoundIn (inside k) (slice_get memory n)
        by_text true t = string_in (inside k) memory n typed (strings n (ltb-true n (length p.texts) t))
        by_text false t = by_own (is_own (slice_get all k) n) refl t

    le_true : (a b : ℕ) → a ≤ b → nat_le a b ≡ true
    le_true a b h = grind (arith, nat_tests)

    pub first_apart : StandApart (length p.texts) all memory
    first_apart = record {
      typed = typed;
      strings = strings;
      ready = λ k. record { closed = record { by = closed k }; made = λ n h. or_third (nat_lt n (length p.texts)) (is_own (slice_get all k) n) (nat_le (length memory) n) (le_true (length memory) n h) };
      behind = λ k n h. let l : length (map text_object p.texts) ≤ n = own_behind receivers (map text_object p.texts) k n h in omega (arith, l, length_texts p.texts);
      before = own_before receivers (map text_object p.texts);
      apart = own_apart receivers (map text_object p.texts);
    }
