-- The struct states of a struct are its own and those of the structs in its fields: as many levels as there are structs are
-- enough, and one more changes nothing.
use Rattle.std.proofs.Common.{◌≡◌, ℕ, zero, suc, ◌+◌, ◌<◌, ◌≤◌, ◌&&◌, Bool, true, false, nat_lt, List, [], ◌∷◌, ◌++◌, length, Option, Some, None, refl, ap, ◌∙◌, arith, ltb-true, ltb-false}
use Rattle.std.specs.Prelude.{slice_get, option_map, unwrap_or}
use Rattle.std.specs.List.{list_all}
use Rattle.wf_ast.specs.declared.types.Ty.{Ty}
use Rattle.wf_ast.specs.declared.types.Ty.TheVariants as types
use Rattle.wf_ast.specs.TypedPackage.{PackageTree, StructTree, Variable}
use Rattle.wf_ast.specs.WellTyped.{all_structs_whole, is_whole, is_whole_struct, is_whole_type, well_typed}
use Rattle.wf_meaning.specs.SourceState.{Held, Object, fields_of, fresh_field, fresh_fields, inside_field, inside_fields, raw_object, raw_objects}
use Rattle.wf_meaning.proofs.Lists.{both_true}
use Rattle.wf_mean.specs.Sizes.{states_of}
use Rattle.wf_mean.proofs.FreshLaws.{none-past}

-- What is whole with some levels is whole with one more.
type-more : (f g : ℕ → Bool) → ((s : ℕ) → f s ≡ true → g s ≡ true) → (ty : Ty) → is_whole_type f ty ≡ true → is_whole_type g ty ≡ true
type-more f g le (types.Num width lo hi) h = refl
type-more f g le types.Flag h = refl
type-more f g le types.Status h = refl
type-more f g le (types.Array width lo hi count) h = refl
type-more f g le (types.Part s) h = le s.0 h
type-more f g le types.Reader h = refl
type-more f g le types.Writer h = refl
type-more f g le (types.Slice width) h = refl

fields-more : (f g : ℕ → Bool) → ((s : ℕ) → f s ≡ true → g s ≡ true) → (xs : List Variable) → list_all (λ x. is_whole_type f x.ty) xs ≡ true → list_all (λ x. is_whole_type g x.ty) xs ≡ true
fields-more f g le [] h = refl
fields-more f g le (x ∷ xs) h =
    let b = both_true (is_whole_type f x.ty) _ h in
    ap (λ t. t && list_all (λ (y : Variable). is_whole_type g y.ty) xs) (type-more f g le x.ty b.0) ∙ fields-more f g le xs b.1

struct-more : (f g : ℕ → Bool) → ((s : ℕ) → f s ≡ true → g s ≡ true) → (o : Option StructTree) → is_whole_struct f o ≡ true → is_whole_struct g o ≡ true
struct-more f g le None h = absurd (cc (h))
struct-more f g le (Some it) h = fields-more f g le it.fields h

whole-more : (p : PackageTree) (levels s : ℕ) → is_whole p levels s ≡ true → is_whole p (suc levels) s ≡ true
whole-more p zero s h = absurd (cc (h))
whole-more p (suc levels) s h = struct-more (is_whole p levels) (is_whole p (suc levels)) (whole-more p levels) (slice_get p.structs s) h

-- Where the structs in fields have the same states by `f` and by `g`, so has the struct of these fields.
abbrev AreSame : (f g : ℕ → ℕ → List Object) → (whole : ℕ → Bool) → Type 0
AreSame f g whole = (s n : ℕ) → whole s ≡ true → f s n ≡ g s n

inside-same : (f g : ℕ → ℕ → List Object) (whole : ℕ → Bool) → AreSame f g whole → (ty : Ty) (n : ℕ) → is_whole_type whole ty ≡ true → inside_field f n ty ≡ inside_field g n ty
inside-same f g whole same (types.Num width lo hi) n h = refl
inside-same f g whole same types.Flag n h = refl
inside-same f g whole same types.Status n h = refl
inside-same f g whole same (types.Array width lo hi count) n h = refl
inside-same f g whole same (types.Part s) n h = same s.0 n h
inside-same f g whole same types.Reader n h = refl
inside-same f g whole same types.Writer n h = refl
inside-same f g whole same (types.Slice width) n h = refl

all-inside-same : (f g : ℕ → ℕ → List Object) (whole : ℕ → Bool) → AreSame f g whole → (xs : List Variable) (n : ℕ) → list_all (λ x. is_whole_type whole x.ty) xs ≡ true → inside_fields f n xs ≡ inside_fields g n xs
all-inside-same f g whole same [] n h = refl
all-inside-same f g whole same (x ∷ xs) n h =
    let b = both_true (is_whole_type whole x.ty) _ h in
    ap (λ (os : List Object). os ++ inside_fields f (n + length os) xs) (inside-same f g whole same x.ty n b.0)
    ∙ ap (λ (more : List Object). inside_field g n x.ty ++ more) (all-inside-same f g whole same xs (n + length (inside_field g n x.ty)) b.1)

fresh-same : (f g : ℕ → ℕ → List Object) (whole : ℕ → Bool) → AreSame f g whole → (xs : List Variable) (n : ℕ) → list_all (λ x. is_whole_type whole x.ty) xs ≡ true → fresh_fields f n xs ≡ fresh_fields g n xs
fresh-same f g whole same [] n h = refl
fresh-same f g whole same (x ∷ xs) n h =
    let b = both_true (is_whole_type whole x.ty) _ h in
    ap (λ (os : List Object). fresh_field n x.ty ∷ fresh_fields f (n + length os) xs) (inside-same f g whole same x.ty n b.0)
    ∙ ap (λ (more : List Held). fresh_field n x.ty ∷ more) (fresh-same f g whole same xs (n + length (inside_field g n x.ty)) b.1)

object-same : (p : PackageTree) (f g : ℕ → ℕ → List Object) (whole : ℕ → Bool) → AreSame f g whole → (xs : List Variable) (n : ℕ) → list_all (λ x. is_whole_type whole x.ty) xs ≡ true → raw_object p f n xs ≡ raw_object p g n xs
object-same p f g whole same xs n h = rw (fresh-same f g whole same xs (n + 1) h, all-inside-same f g whole same xs (n + 1) h) refl

fields-whole : (whole : ℕ → Bool) (o : Option StructTree) → is_whole_struct whole o ≡ true → list_all (λ (x : Variable). is_whole_type whole x.ty) (unwrap_or (option_map (λ (it : StructTree). it.fields) o) []) ≡ true
fields-whole whole None h = refl
fields-whole whole (Some it) h = h

levels-enough : (p : PackageTree) (levels s n : ℕ) → is_whole p levels s ≡ true → raw_objects p levels s n ≡ raw_objects p (suc levels) s n
levels-enough p zero s n h = absurd (cc (h))
levels-enough p (suc levels) s n h = object-same p (raw_objects p levels) (raw_objects p (suc levels)) (is_whole p levels) (levels-enough p levels) (fields_of p s) n (fields-whole (is_whole p levels) (slice_get p.structs s) h)

-- Every struct is whole.
struct-whole : (p : PackageTree) (n : ℕ) (ss : List StructTree) (i : ℕ) → all_structs_whole p n ss ≡ true → i < length ss → is_whole p (length p.structs) (n + i) ≡ true
struct-whole p n [] i h less = absurd (omega (arith, less))
struct-whole p n (s ∷ ss) zero h less =
    let first : is_whole p (length p.structs) n ≡ true = (both_true (is_whole p (length p.structs) n) _ h).0 in
    ap (is_whole p (length p.structs)) (let e : n + 0 ≡ n = omega arith in e) ∙ first
struct-whole p n (s ∷ ss) (suc i) h less =
    let rest = (both_true (list_all _ s.fields) _ (both_true (is_whole p (length p.structs) n) _ h).1).1 in
    ap (is_whole p (length p.structs)) (let e : n + suc i ≡ suc n + i = omega arith in e) ∙ struct-whole p (suc n) ss i rest (omega (arith, less))

each-whole : (p : PackageTree) → well_typed p ≡ true → (s : ℕ) → s < length p.structs → is_whole p (length p.structs) s ≡ true
unfolding well_typed
each-whole p h s less = ap (is_whole p (length p.structs)) (let e : s ≡ 0 + s = omega arith in e) ∙ struct-whole p 0 p.structs s (both_true (all_structs_whole p 0 p.structs) _ h).0 less

-- A struct that is none has no fields.
pub no-fields : (p : PackageTree) (s : ℕ) → length p.structs ≤ s → fields_of p s ≡ []
no-fields p s past = ap (λ o. unwrap_or (option_map (λ (it : StructTree). it.fields) o) []) (none-past p.structs s past)

alone : (p : PackageTree) (f g : ℕ → ℕ → List Object) (n : ℕ) (xs : List Variable) → xs ≡ [] → raw_object p f n xs ≡ raw_object p g n xs
alone p f g n [] e = refl
alone p f g n (x ∷ xs) e = absurd (cc (e))

-- Its own, and those of the structs in its fields.
pub states-are : (p : PackageTree) → well_typed p ≡ true → (s n : ℕ) → states_of p s n ≡ raw_object p (states_of p) n (fields_of p s)
states-are p typed s n = by (nat_lt s (length p.structs)) refl
  where
    by : (b : Bool) → nat_lt s (length p.structs) ≡ b → states_of p s n ≡ raw_object p (states_of p) n (fields_of p s)
    by true e = levels-enough p (suc (length p.structs)) s n (whole-more p (length p.structs) s (each-whole p typed s (ltb-true s (length p.structs) e)))
    by false e = alone p (raw_objects p (length p.structs)) (states_of p) n (fields_of p s) (no-fields p s (ltb-false s (length p.structs) e))
