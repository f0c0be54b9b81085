-- A new receiver: its struct states, all fields of which are zero.
use Rattle.std.proofs.Common.{◌≡◌, ◌⊎◌, inl, inr, ℕ, zero, suc, ◌+◌, ◌^◌, ◌<◌, Bool, true, false, List, [], ◌∷◌, ◌++◌, length, replicate, Option, Some, None, refl, sym, ap, ◌∙◌, subst, nat_eq, arith}
use Rattle.std.specs.Prelude.{slice_get, option_map, option_and_then, unwrap_or, is_some, nat_lt, find, cond, if◌then◌else◌}
use Rattle.std.specs.List.{list_all}
use Rattle.std.proofs.lemmas.Bool.{and_parts}
use Rattle.std.proofs.lemmas.Bool.Decides.{nat_tests}
use Rattle.std.proofs.lemmas.List.{length-replicate}
use Rattle.std.proofs.lemmas.List.Elements.{All-replicate}
use Rattle.wf_ast.specs.declared.types.Ty.{Ty}
use Rattle.wf_ast.specs.declared.types.Ty.TheVariants as types
use Rattle.wf_text.specs.Surface.{PublicStruct}
use Rattle.wf_ast.specs.TypedPackage.{Variable, StructTree, MethodTree, PackageTree, public_methods, public_structs}
use Rattle.wf_ast.specs.WellTyped.{field_at, variable_at, is_range, may_be_field, is_whole_type, is_whole_struct, is_whole, all_structs_whole, well_typed}
use Rattle.wf_facts_exprs.specs.LawfulState.{IsOf}
use Rattle.wf_meaning.specs.SourceState.{Held, Object, Remaining, raw, fresh_field, inside_field, fresh_fields, inside_fields, fields_of, raw_objects}
use Rattle.wf_sound.specs.Worlds.{Shape, numbers_of, IsHeldAs}
use Rattle.wf_sound_runs.specs.Accepted.{HasShortArrays}
use Rattle.wf_sound_runs.proofs.Running.{IsResumable}
use Rattle.wf_sound_runs.proofs.HostWorlds.{ObjectsLawful, fields-well, nothing-remains}

-- Whether an item of two lists is one of the first or of the second.
pub record InBoth {X : Type 0} (xs ys : List X) (i : ℕ) (x : X) : Type 0 where
  pub at : ((i < length xs) × (slice_get xs i ≡ Some x)) ⊎ ((j : ℕ) × (i ≡ length xs + j) × (slice_get ys j ≡ Some x))

in-both : {X : Type 0} (xs ys : List X) (i : ℕ) (x : X) → slice_get (xs ++ ys) i ≡ Some x → InBoth xs ys i x
in-both [] ys i x e = record { at = inr (i, omega arith, e) }
in-both (y ∷ xs) ys zero x e = record { at = inl (omega arith, e) }
in-both (y ∷ xs) ys (suc i) x e = later (in-both xs ys i x e)
  where
    later : InBoth xs ys i x → InBoth (y ∷ xs) ys (suc i) x
    later b = by b.at
      where
        by : ((i < length xs) × (slice_get xs i ≡ Some x)) ⊎ ((j : ℕ) × (i ≡ length xs + j) × (slice_get ys j ≡ Some x)) → InBoth (y ∷ xs) ys (suc i) x
        by (inl h) = record { at = inl (let l : i < length xs = h.0 in omega (arith, l), h.1) }
        by (inr h) = record { at = inr (h.0, let l : i ≡ length xs + h.0 = h.1 in omega (arith, l), h.2) }

length-append : {X : Type 0} (xs ys : List X) → length (xs ++ ys) ≡ length xs + length ys
length-append [] ys = omega arith
length-append (x ∷ xs) ys = let h = length-append xs ys in omega (arith, h)

first-of : {X : Type 0} (xs ys : List X) (i : ℕ) (x : X) → slice_get xs i ≡ Some x → slice_get (xs ++ ys) i ≡ Some x
first-of [] ys i x e = absurd (cc (e))
first-of (y ∷ xs) ys zero x e = e
first-of (y ∷ xs) ys (suc i) x e = first-of xs ys i x e

second-of : {X : Type 0} (xs ys : List X) (i : ℕ) → slice_get (xs ++ ys) (length xs + i) ≡ slice_get ys i
second-of [] ys i = let same : 0 + i ≡ i = omega arith in ap (slice_get ys) same
second-of (y ∷ xs) ys i =
    let same : length (y ∷ xs) + i ≡ suc (length xs + i) = omega arith in
    ap (slice_get (y ∷ xs ++ ys)) same ∙ second-of xs ys i

module _ (p : PackageTree) where
  -- The structs of the struct states inside a field, inside fields, and of a whole receiver.
  abbrev inside_struct : (inside : ℕ → List ℕ) → Ty → List ℕ
  inside_struct inside (types.Part s) = inside s.0
  inside_struct inside ty = []

  abbrev inside_structs : (inside : ℕ → List ℕ) → List Variable → List ℕ
  inside_structs inside [] = []
  inside_structs inside (x ∷ xs) = inside_struct inside x.ty ++ inside_structs inside xs

  abbrev pub raw_structs : (levels s : ℕ) → List ℕ
  raw_structs zero s = []
  raw_structs (suc levels) s = s ∷ inside_structs (raw_structs levels) (fields_of p s)

  -- As many as there are struct states.
  field-long : (inside : ℕ → ℕ → List Object) (them : ℕ → List ℕ) → ((s n : ℕ) → length (inside s n) ≡ length (them s)) → (n : ℕ) (ty : Ty) → length (inside_field inside n ty) ≡ length (inside_struct them ty)
  field-long inside them h n (types.Part s) = h s.0 n
  field-long inside them h n (types.Num width lo hi) = refl
  field-long inside them h n types.Flag = refl
  field-long inside them h n types.Status = refl
  field-long inside them h n (types.Array width lo hi count) = refl
  field-long inside them h n types.Reader = refl
  field-long inside them h n types.Writer = refl
  field-long inside them h n (types.Slice width) = refl

  fields-long : (inside : ℕ → ℕ → List Object) (them : ℕ → List ℕ) → ((s n : ℕ) → length (inside s n) ≡ length (them s)) → (n : ℕ) (xs : List Variable) → length (inside_fields inside n xs) ≡ length (inside_structs them xs)
  fields-long inside them h n [] = refl
  fields-long inside them h n (x ∷ xs) =
      let a = field-long inside them h n x.ty in
      let b = fields-long inside them h (n + length (inside_field inside n x.ty)) xs in
      let c = length-append (inside_field inside n x.ty) (inside_fields inside (n + length (inside_field inside n x.ty)) xs) in
      let d = length-append (inside_struct them x.ty) (inside_structs them xs) in
      omega (arith, a, b, c, d)

  raw-long : (levels s n : ℕ) → length (raw_objects p levels s n) ≡ length (raw_structs levels s)
  raw-long zero s n = refl
  raw-long (suc levels) s n = ap suc (fields-long (raw_objects p levels) (raw_structs levels) (raw-long levels) (n + 1) (fields_of p s))

  -- A list stands in another from a place on.
  abbrev Within : (all : List ℕ) (n : ℕ) (xs : List ℕ) → Type 0
  Within all n xs = (i x : ℕ) → slice_get xs i ≡ Some x → slice_get all (n + i) ≡ Some x

  -- A struct state of a struct, all of it new.
  record IsNew (all : List ℕ) (s : ℕ) (o : Object) : Type 0 where
    fields : (n : ℕ) (ty : Ty) → field_at p s n ≡ Some ty → (held : Held) × (slice_get o.fields n ≡ Some held) × IsHeldAs (record { structs = all; arrays = []; buffers = 0 }) ty held
    left : o.remaining ≡ replicate (length p.methods) None

  module _ (typed : well_typed p ≡ true) (short : HasShortArrays p) (all : List ℕ) where
    abbrev shape : Shape
    shape = record { structs = all; arrays = []; buffers = 0 }

    abbrev IsShort : Ty → Type 0
    IsShort (types.Array width lo hi count) = count < 2 ^ 64
    IsShort ty = Unit {0}

    -- What stands in a new field.
    new-field : (next : ℕ) (ty : Ty) → may_be_field p ty ≡ true → IsShort ty → ((s : _) → ty ≡ types.Part s → slice_get all next ≡ Some s.0) → IsHeldAs shape ty (fresh_field next ty)
    new-field next (types.Num width lo hi) m k h =
        let q = and_parts (is_range (numbers_of width lo hi)) _ m in
        let z : lo ≡ 0 = grind (arith, nat_tests, q.1) in
        record { above = omega (arith, z); below = omega arith }
    new-field next types.Flag m k h = tt
    new-field next types.Status m k h = tt
    new-field next (types.Array width lo hi count) m k h =
        let a = and_parts (nat_lt 0 count) _ m in
        let q = and_parts (is_range (numbers_of width lo hi)) _ a.1 in
        let z : lo ≡ 0 = grind (arith, nat_tests, q.1) in
        let zero_in : IsOf (numbers_of width lo hi) 0 = record { above = omega (arith, z); below = omega arith } in
        (length-replicate count 0, (k, All-replicate (IsOf (numbers_of width lo hi)) count 0 zero_in))
    new-field next (types.Part s) m k h = h s refl
    new-field next types.Reader m k h = absurd (cc (m))
    new-field next types.Writer m k h = absurd (cc (m))
    new-field next (types.Slice width) m k h = absurd (cc (m))

    module _ (inside : ℕ → ℕ → List Object) (them : ℕ → List ℕ) (whole : ℕ → Bool) (long : (s n : ℕ) → length (inside s n) ≡ length (them s)) (heads : (s : ℕ) → whole s ≡ true → slice_get (them s) 0 ≡ Some s)
        (new : (s n : ℕ) → whole s ≡ true → Within all n (them s) → (i t : ℕ) → slice_get (them s) i ≡ Some t → (o : Object) × (slice_get (inside s n) i ≡ Some o) × IsNew all t o) where
      part-first : (next : ℕ) (ty : Ty) (rest : List ℕ) → is_whole_type whole ty ≡ true → Within all next (inside_struct them ty ++ rest) → (s : _) → ty ≡ types.Part s → slice_get all next ≡ Some s.0
      part-first next ty rest w h s e =
          let P : Ty → Type 0 = λ ty. is_whole_type whole ty ≡ true in
          let Q : Ty → Type 0 = λ ty. Within all next (inside_struct them ty ++ rest) in
          let k : whole s.0 ≡ true = subst P e w in
          let within : Within all next (them s.0 ++ rest) = subst Q e h in
          let at : slice_get all (next + 0) ≡ Some s.0 = within 0 s.0 (first-of (them s.0) rest 0 s.0 (heads s.0 k)) in
          let same : next + 0 ≡ next = omega arith in
          ap (slice_get all) (sym same) ∙ at

      behind : (next : ℕ) (ty : Ty) (rest : List ℕ) → Within all next (inside_struct them ty ++ rest) → Within all (next + length (inside_field inside next ty)) rest
      behind next ty rest h i x e =
          let at : slice_get all (next + (length (inside_struct them ty) + i)) ≡ Some x = h (length (inside_struct them ty) + i) x (second-of (inside_struct them ty) rest i ∙ e) in
          let l = field-long inside them long next ty in
          let same : next + length (inside_field inside next ty) + i ≡ next + (length (inside_struct them ty) + i) = omega (arith, l) in
          ap (slice_get all) same ∙ at

      new-fields : (xs : List Variable) (next : ℕ) → list_all (λ x. is_whole_type whole x.ty) xs ≡ true → list_all (λ x. may_be_field p x.ty) xs ≡ true → ((n : ℕ) (ty : Ty) → variable_at xs n ≡ Some ty → IsShort ty) → Within all next (inside_structs them xs)
          → (n : ℕ) (ty : Ty) → variable_at xs n ≡ Some ty → (held : Held) × (slice_get (fresh_fields inside next xs) n ≡ Some held) × IsHeldAs shape ty held
      new-fields [] next w m k h n ty e = absurd (cc (e))
      new-fields (x ∷ xs) next w m k h zero ty e =
          let same : x.ty ≡ ty = cc (e) in
          let P : Ty → Type 0 = λ ty. IsHeldAs shape ty (fresh_field next x.ty) in
          let a = and_parts (is_whole_type whole x.ty) _ w in
          let b = and_parts (may_be_field p x.ty) _ m in
          (fresh_field next x.ty, refl, subst P same (new-field next x.ty b.0 (k 0 x.ty refl) (part-first next x.ty (inside_structs them xs) a.0 h)))
      new-fields (x ∷ xs) next w m k h (suc n) ty e =
          let a = and_parts (is_whole_type whole x.ty) _ w in
          let b = and_parts (may_be_field p x.ty) _ m in
          new-fields xs (next + length (inside_field inside next x.ty)) a.1 b.1 (λ n ty i. k (suc n) ty i) (behind next x.ty (inside_structs them xs) h) n ty e

      new-part : (next : ℕ) (ty : Ty) (rest : List ℕ) → is_whole_type whole ty ≡ true → Within all next (inside_struct them ty ++ rest) → (i t : ℕ) → slice_get (inside_struct them ty) i ≡ Some t
          → (o : Object) × (slice_get (inside_field inside next ty) i ≡ Some o) × IsNew all t o
      new-part next (types.Part s) rest w h i t e = new s.0 next w (λ j x f. h j x (first-of (them s.0) rest j x f)) i t e
      new-part next (types.Num width lo hi) rest w h i t e = absurd (cc (e))
      new-part next types.Flag rest w h i t e = absurd (cc (e))
      new-part next types.Status rest w h i t e = absurd (cc (e))
      new-part next (types.Array width lo hi count) rest w h i t e = absurd (cc (e))
      new-part next types.Reader rest w h i t e = absurd (cc (e))
      new-part next types.Writer rest w h i t e = absurd (cc (e))
      new-part next (types.Slice width) rest w h i t e = absurd (cc (e))

      new-inside : (xs : List Variable) (next : ℕ) → list_all (λ x. is_whole_type whole x.ty) xs ≡ true → Within all next (inside_structs them xs)
          → (i t : ℕ) → slice_get (inside_structs them xs) i ≡ Some t → (o : Object) × (slice_get (inside_fields inside next xs) i ≡ Some o) × IsNew all t o
      new-inside [] next w h i t e = absurd (cc (e))
      new-inside (x ∷ xs) next w h i t e =
          let a = and_parts (is_whole_type whole x.ty) _ w in
          let b : InBoth (inside_struct them x.ty) (inside_structs them xs) i t = in-both (inside_struct them x.ty) (inside_structs them xs) i t e in
          by b.at a.0 (λ j f. new-inside xs (next + length (inside_field inside next x.ty)) a.1 (behind next x.ty (inside_structs them xs) h) j t f)
        where
          rest : List Object
          rest = inside_fields inside (next + length (inside_field inside next x.ty)) xs

          by : ((i < length (inside_struct them x.ty)) × (slice_get (inside_struct them x.ty) i ≡ Some t)) ⊎ ((j : ℕ) × (i ≡ length (inside_struct them x.ty) + j) × (slice_get (inside_structs them xs) j ≡ Some t))
              → is_whole_type whole x.ty ≡ true
              → ((j : ℕ) → slice_get (inside_structs them xs) j ≡ Some t → (o : Object) × (slice_get rest j ≡ Some o) × IsNew all t o)
              → (o : Object) × (slice_get (inside_field inside next x.ty ++ rest) i ≡ Some o) × IsNew all t o
          by (inl f) k later =
              let found = new-part next x.ty (inside_structs them xs) k h i t f.1 in
              (found.0, first-of (inside_field inside next x.ty) rest i found.0 found.1, found.2)
          by (inr f) k later =
              let found = later f.0 f.2 in
              let l = field-long inside them long next x.ty in
              let same : i ≡ length (inside_field inside next x.ty) + f.0 = f.1 ∙ ap (λ n. n + f.0) (sym l) in
              (found.0, ap (slice_get (inside_field inside next x.ty ++ rest)) same ∙ second-of (inside_field inside next x.ty) rest f.0 ∙ found.1, found.2)

    -- The fields of a whole struct.
    record FieldsOf (levels s : ℕ) : Type 0 where
      whole : list_all (λ x. is_whole_type (is_whole p levels) x.ty) (fields_of p s) ≡ true
      may : list_all (λ x. may_be_field p x.ty) (fields_of p s) ≡ true
      same : (n : ℕ) → variable_at (fields_of p s) n ≡ field_at p s n

    structs-whole : all_structs_whole p 0 p.structs ≡ true
    unfolding well_typed
    structs-whole = (and_parts (all_structs_whole p 0 p.structs) _ typed).0

    struct-fields : (levels s : ℕ) → is_whole p (suc levels) s ≡ true → FieldsOf levels s
    struct-fields levels s w = by (slice_get p.structs s) refl w
      where
        by : (o : Option StructTree) → slice_get p.structs s ≡ o → is_whole_struct (is_whole p levels) o ≡ true → FieldsOf levels s
        by None e w = absurd (cc (w))
        by (Some it) e w =
            let f : fields_of p s ≡ it.fields = ap (λ (o : Option StructTree). unwrap_or (option_map (λ it. it.fields) o) []) e in
            let P : List Variable → Type 0 = λ xs. list_all (λ x. is_whole_type (is_whole p levels) x.ty) xs ≡ true in
            let Q : List Variable → Type 0 = λ xs. list_all (λ x. may_be_field p x.ty) xs ≡ true in
            record {
              whole = subst P (sym f) w;
              may = subst Q (sym f) (fields-well p 0 p.structs structs-whole s it e);
              same = λ n. ap (λ xs. variable_at xs n) f ∙ sym (ap (option_and_then (λ (it : StructTree). variable_at it.fields n)) e);
            }

    heads : (levels s : ℕ) → is_whole p levels s ≡ true → slice_get (raw_structs levels s) 0 ≡ Some s
    heads zero s w = absurd (cc (w))
    heads (suc levels) s w = refl

    is-short : (s n : ℕ) (ty : Ty) → field_at p s n ≡ Some ty → IsShort ty
    is-short s n (types.Array width lo hi count) e = short s n width lo hi count e
    is-short s n (types.Num width lo hi) e = tt
    is-short s n types.Flag e = tt
    is-short s n types.Status e = tt
    is-short s n (types.Part t) e = tt
    is-short s n types.Reader e = tt
    is-short s n types.Writer e = tt
    is-short s n (types.Slice width) e = tt

    abbrev New : ℕ → Type 0
    New levels = (s n : ℕ) → is_whole p levels s ≡ true → Within all n (raw_structs levels s) → (i t : ℕ) → slice_get (raw_structs levels s) i ≡ Some t → (o : Object) × (slice_get (raw_objects p levels s n) i ≡ Some o) × IsNew all t o

    abbrev new_object : (levels s n : ℕ) → Object
    new_object levels s n = record { life = raw; fields = fresh_fields (raw_objects p levels) (n + 1) (fields_of p s); active = None; remaining = replicate (length p.methods) None }

    raw-new : (levels s n : ℕ) → is_whole p levels s ≡ true → Within all n (raw_structs levels s) → (i t : ℕ) → slice_get (raw_structs levels s) i ≡ Some t → (o : Object) × (slice_get (raw_objects p levels s n) i ≡ Some o) × IsNew all t o
    raw-new zero s n w h i t e = absurd (cc (w))
    raw-new (suc levels) s n w h i t e = by i (λ s n w h i t e. raw-new levels s n w h i t e) e
      where
        parts : FieldsOf levels s
        parts = struct-fields levels s w

        further : Within all (n + 1) (inside_structs (raw_structs levels) (fields_of p s))
        further j x f = let same : n + 1 + j ≡ n + suc j = omega arith in ap (slice_get all) same ∙ h (suc j) x f

        first : New levels → IsNew all s (new_object levels s n)
        first new = record {
          fields = λ k ty f. new-fields (raw_objects p levels) (raw_structs levels) (is_whole p levels) (raw-long levels) (heads levels) new (fields_of p s) (n + 1) parts.whole parts.may (λ j ty g. is-short s j ty (sym (parts.same j) ∙ g)) further k ty (parts.same k ∙ f);
          left = refl;
        }

        by : (i : ℕ) → New levels → slice_get (s ∷ inside_structs (raw_structs levels) (fields_of p s)) i ≡ Some t → (o : Object) × (slice_get (new_object levels s n ∷ inside_fields (raw_objects p levels) (n + 1) (fields_of p s)) i ≡ Some o) × IsNew all t o
        by zero new e =
            let same : s ≡ t = cc (e) in
            let P : ℕ → Type 0 = λ t. IsNew all t (new_object levels s n) in
            (new_object levels s n, refl, subst P same (first new))
        by (suc i) new e = new-inside (raw_objects p levels) (raw_structs levels) (is_whole p levels) (raw-long levels) (heads levels) new (fields_of p s) (n + 1) parts.whole further i t e

  -- Of more levels a struct is whole too.
  types-whole : (f g : ℕ → Bool) → ((s : ℕ) → f s ≡ true → g s ≡ true) → (xs : List Variable) → list_all (λ x. is_whole_type f x.ty) xs ≡ true → list_all (λ x. is_whole_type g x.ty) xs ≡ true
  types-whole f g h [] w = refl
  types-whole f g h (x ∷ xs) w =
      let a = and_parts (is_whole_type f x.ty) _ w in
      rw (one x.ty a.0) (types-whole f g h xs a.1)
    where
      one : (ty : Ty) → is_whole_type f ty ≡ true → is_whole_type g ty ≡ true
      one (types.Part s) k = h s.0 k
      one (types.Num width lo hi) k = refl
      one types.Flag k = refl
      one types.Status k = refl
      one (types.Array width lo hi count) k = refl
      one types.Reader k = refl
      one types.Writer k = refl
      one (types.Slice width) k = refl

  deeper : (levels s : ℕ) → is_whole p levels s ≡ true → is_whole p (suc levels) s ≡ true
  deeper zero s w = absurd (cc (w))
  deeper (suc levels) s w = by (slice_get p.structs s) (λ s w. deeper levels s w) w
    where
      by : (o : Option StructTree) → ((s : ℕ) → is_whole p levels s ≡ true → is_whole p (suc levels) s ≡ true) → is_whole_struct (is_whole p levels) o ≡ true → is_whole_struct (is_whole p (suc levels)) o ≡ true
      by None h w = w
      by (Some it) h w = types-whole (is_whole p levels) (is_whole p (suc levels)) h it.fields w

  -- A public struct is whole.
  declared-whole : (methods : List MethodTree) (n : ℕ) (ss : List StructTree) → all_structs_whole p n ss ≡ true → (k : ℕ) (it : PublicStruct) → find (λ it. nat_eq it.number k) (public_structs methods n ss) ≡ Some it → is_whole p (length p.structs) k ≡ true
  declared-whole methods n [] w k it e = absurd (cc (e))
  declared-whole methods n (s ∷ ss) w k it e = by s.public (λ h. declared-whole methods (suc n) ss rest k it h) e
    where
      first : is_whole p (length p.structs) n ≡ true
      first = (and_parts (is_whole p (length p.structs) n) _ w).0

      rest : all_structs_whole p (suc n) ss ≡ true
      rest = (and_parts (list_all (λ x. may_be_field p x.ty) s.fields) _ (and_parts (is_whole p (length p.structs) n) _ w).1).1

      mine : PublicStruct
      mine = record { number = n; name = s.name; methods = public_methods n 0 methods }

      found : (t : Bool) → nat_eq n k ≡ t → (find (λ it. nat_eq it.number k) (public_structs methods (suc n) ss) ≡ Some it → is_whole p (length p.structs) k ≡ true)
          → cond t (Some mine) (find (λ it. nat_eq it.number k) (public_structs methods (suc n) ss)) ≡ Some it → is_whole p (length p.structs) k ≡ true
      found true i further h =
          let number : n ≡ k = grind (arith, nat_tests, i) in
          ap (is_whole p (length p.structs)) (sym number) ∙ first
      found false i further h = further h

      by : (t : Bool) → (find (λ it. nat_eq it.number k) (public_structs methods (suc n) ss) ≡ Some it → is_whole p (length p.structs) k ≡ true)
          → find (λ it. nat_eq it.number k) (if t then mine ∷ public_structs methods (suc n) ss else public_structs methods (suc n) ss) ≡ Some it → is_whole p (length p.structs) k ≡ true
      by true further h = found (nat_eq n k) refl further h
      by false further h = further h

  -- The struct states of a new receiver.
  pub fresh-lawful : well_typed p ≡ true → HasShortArrays p → (s : ℕ) (it : PublicStruct) → find (λ it. nat_eq it.number s) (public_structs p.methods 0 p.structs) ≡ Some it → ObjectsLawful p (raw_structs (suc (length p.structs)) s) (raw_objects p (suc (length p.structs)) s 0)
  fresh-lawful typed short s it e = record { there = there; fields = fields; remaining = remaining }
    where
      whole : is_whole p (suc (length p.structs)) s ≡ true
      whole = deeper (length p.structs) s (declared-whole p.methods 0 p.structs (structs-whole typed short (raw_structs (suc (length p.structs)) s)) s it e)

      within : Within (raw_structs (suc (length p.structs)) s) 0 (raw_structs (suc (length p.structs)) s)
      within i x f = let same : 0 + i ≡ i = omega arith in ap (slice_get (raw_structs (suc (length p.structs)) s)) same ∙ f

      new : (i t : ℕ) → slice_get (raw_structs (suc (length p.structs)) s) i ≡ Some t → (o : Object) × (slice_get (raw_objects p (suc (length p.structs)) s 0) i ≡ Some o) × IsNew (raw_structs (suc (length p.structs)) s) t o
      new i t f = raw-new typed short (raw_structs (suc (length p.structs)) s) (suc (length p.structs)) s 0 whole within i t f

      there : (object t : ℕ) → slice_get (raw_structs (suc (length p.structs)) s) object ≡ Some t → is_some (slice_get (raw_objects p (suc (length p.structs)) s 0) object) ≡ true
      there object t f = ap is_some (new object t f).1

      fields : (object n : ℕ) (ty : Ty) → option_and_then (λ s. field_at p s n) (slice_get (raw_structs (suc (length p.structs)) s) object) ≡ Some ty
          → (held : Held) × (option_and_then (λ (o : Object). slice_get o.fields n) (slice_get (raw_objects p (suc (length p.structs)) s 0) object) ≡ Some held) × IsHeldAs (record { structs = (raw_structs (suc (length p.structs)) s); arrays = []; buffers = 0 }) ty held
      fields object n ty f = by (slice_get (raw_structs (suc (length p.structs)) s) object) refl f
        where
          by : (o : Option ℕ) → slice_get (raw_structs (suc (length p.structs)) s) object ≡ o → option_and_then (λ s. field_at p s n) o ≡ Some ty
              → (held : Held) × (option_and_then (λ (o : Object). slice_get o.fields n) (slice_get (raw_objects p (suc (length p.structs)) s 0) object) ≡ Some held) × IsHeldAs (record { structs = (raw_structs (suc (length p.structs)) s); arrays = []; buffers = 0 }) ty held
          by None i f = absurd (cc (f))
          by (Some t) i f =
              let it = new object t i in
              let held = it.2.fields n ty f in
              (held.0, ap (option_and_then (λ (o : Object). slice_get o.fields n)) it.1 ∙ held.1, held.2)

      -- As many struct states as structs.
      shorter : {X Y : Type 0} (xs : List X) (ys : List Y) → length xs ≡ length ys → (i : ℕ) (x : X) → slice_get xs i ≡ Some x → (y : Y) × (slice_get ys i ≡ Some y)
      shorter [] ys l i x f = absurd (cc (f))
      shorter (x ∷ xs) [] l i y f = absurd (cc (l))
      shorter (x ∷ xs) (y ∷ ys) l zero z f = (y, refl)
      shorter (x ∷ xs) (y ∷ ys) l (suc i) z f = shorter xs ys (omega (arith, l)) i z f

      remaining : (object method : ℕ) (o : Object) (left : Remaining) → slice_get (raw_objects p (suc (length p.structs)) s 0) object ≡ Some o → slice_get o.remaining method ≡ Some (Some left) → IsResumable p method left
      remaining object method o left f g =
          let t = shorter (raw_objects p (suc (length p.structs)) s 0) (raw_structs (suc (length p.structs)) s) (raw-long (suc (length p.structs)) s 0) object o f in
          let it = new object t.0 t.1 in
          let same : it.0 ≡ o = cc (it.1, f) in
          let P : List (Option Remaining) → Type 0 = λ xs. slice_get xs method ≡ Some (Some left) in
          absurd (nothing-remains p (length p.methods) method left (subst P (ap (λ (o : Object). o.remaining) (sym same) ∙ it.2.left) g))
