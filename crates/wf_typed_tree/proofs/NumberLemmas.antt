-- Tests and widths: small facts that the other proofs share.
use Rattle.std.proofs.Common.{◌≡◌, ℕ, ◌^◌, Bool, true, false, not, ◌&&◌, ◌||◌, Option, Some, None, refl, subst, arith, nat_lt, nat_eq}
use Rattle.std.specs.Prelude.{option_and_then, option_map, if◌then◌else◌}
use Rattle.std.proofs.lemmas.Bool.Decides.{nat_tests}
use Rattle.wf_base.specs.declared.widths.Width.{Width}
use Rattle.wf_base.specs.declared.widths.Width.TheVariants.{W8, W16, W32, W64}
use Rattle.wf_base.specs.BaseTable.{bits_of}
use Rattle.wf_ast.specs.declared.types.Ty.TheVariants as types
use Rattle.wf_ast.specs.TypedTree.{NumType, NumTree, number, read, element, link, convert, length_of, asked, ValueTree, numeric}
use Rattle.wf_ast.specs.WellTyped.{Context, fits, is_width, same_num_type, width_of, varies, is_constant, is_whole_number, well_part}
use Rattle.wf_named.specs.NamedTree.{NamedExprTree, NamedArgTrees, more_args}
use Rattle.wf_named.specs.WellNamed.{NamedScope, named_expr, named_args}
use Rattle.wf_types_rules.specs.declared.meanings.Meaning.{Meaning}
use Rattle.wf_types_rules.specs.declared.meanings.Meaning.TheVariants as meanings
use Rattle.wf_types_rules.specs.Meanings as meant
use Rattle.wf_types_rules.specs.Operands.{bits_in}
use Rattle.wf_typed_tree.specs.MeaningTrees.{HasMeaning}

pub both : (a b : Bool) → (a && b) ≡ true → (a ≡ true) × (b ≡ true)
both true b h = (refl, h)
both false b h = absurd (cc h)

pub and-true : (a b : Bool) → a ≡ true → b ≡ true → (a && b) ≡ true
and-true true b h k = k
and-true false b h k = absurd (cc h)

pub or-left : (a b : Bool) → a ≡ true → (a || b) ≡ true
or-left true b h = refl
or-left false b h = absurd (cc h)

pub or-right : (a b : Bool) → b ≡ true → (a || b) ≡ true
or-right true b h = refl
or-right false b h = h

pub same-self : (n : ℕ) → nat_eq n n ≡ true
same-self n = grind (arith, nat_tests)

pub equal-numbers : (m n : ℕ) → nat_eq m n ≡ true → m ≡ n
equal-numbers m n h = grind (arith, nat_tests, h)

-- An argument that is named, and those after it.
pub named-more : (s : NamedScope) (e : NamedExprTree) (others : NamedArgTrees) → named_args s (more_args e others) ≡ true → (named_expr s e ≡ true) × (named_args s others ≡ true)
named-more s e others h = let first = both (named_expr s e) _ h in (first.0, (both (named_args s others) _ first.1).0)

-- What `and_then` and `map` are made of.
pub record Then {X Y : Type 0} (f : X → Option Y) (o : Option X) (y : Y) : Type 0 where
  pub of : X
  pub is : o ≡ Some of
  pub gives : f of ≡ Some y

pub then-parts : {X Y : Type 0} (f : X → Option Y) (o : Option X) (y : Y) → option_and_then f o ≡ Some y → Then f o y
then-parts f None y h = absurd (cc h)
then-parts f (Some x) y h = record { of = x; is = refl; gives = h }

pub record Mapped {X Y : Type 0} (f : X → Y) (o : Option X) (y : Y) : Type 0 where
  pub of : X
  pub is : o ≡ Some of
  pub gives : f of ≡ y

pub map-parts : {X Y : Type 0} (f : X → Y) (o : Option X) (y : Y) → option_map f o ≡ Some y → Mapped f o y
map-parts f None y h = absurd (cc h)
map-parts f (Some x) y h = record { of = x; is = refl; gives = cc h }

-- Only where a test holds.
pub where-parts : {X : Type 0} (test : Bool) (x y : X) → (if test then Some x else None) ≡ Some y → (test ≡ true) × (x ≡ y)
where-parts true x y h = (refl, cc h)
where-parts false x y h = absurd (cc h)

-- Widths.
pub width-is : (width : Width) → is_width (bits_of width) ≡ true
width-is W8 = refl
width-is W16 = refl
width-is W32 = refl
width-is W64 = refl

pub same-bits : (v w : Width) → meant.same_width v w ≡ true → bits_of v ≡ bits_of w
same-bits v w h = equal-numbers (bits_of v) (bits_of w) h

pub in-64 : (width : Option Width) (n : ℕ) → nat_lt n (2 ^ bits_in width) ≡ true → nat_lt n (2 ^ 64) ≡ true
in-64 None n h = h
in-64 (Some W8) n h = grind (arith, nat_tests, h)
in-64 (Some W16) n h = grind (arith, nat_tests, h)
in-64 (Some W32) n h = grind (arith, nat_tests, h)
in-64 (Some W64) n h = h

pub same-type : (of : NumType) → same_num_type of of ≡ true
same-type of = and-true _ _ (same-self of.bits) (and-true _ _ (same-self of.low) (same-self of.high))

-- What has a width fits it.
pub width-fits : (t : NumTree) (bits : ℕ) → width_of t ≡ Some bits → fits bits t ≡ true
width-fits (number at n) bits h = absurd (cc h)
width-fits (read at of path) bits h = let e : of.bits ≡ bits = cc h in rw e (same-self bits)
width-fits (element at of cells i) bits h = let e : of.bits ≡ bits = cc h in rw e (same-self bits)
width-fits (link at sign op own joined a b) bits h = let e : own ≡ bits = cc h in rw e (same-self bits)
width-fits (convert at sign own a) bits h = let e : own ≡ bits = cc h in rw e (same-self bits)
width-fits (length_of at cells) bits h = let e : 64 ≡ bits = cc h in subst (λ k. nat_eq k 64 ≡ true) e refl
width-fits (asked at question a) bits h = cc (h, same-self bits)

pub varies-whole : (t : NumTree) → varies t ≡ true → is_whole_number t ≡ true
varies-whole t h = or-right (is_constant t) (varies t) h

pub varies-unfixed : (t : NumTree) → varies t ≡ true → not (is_constant t) ≡ true
varies-unfixed (number at n) h = h
varies-unfixed (read at of path) h = refl
varies-unfixed (element at of cells i) h = refl
varies-unfixed (link at sign op own joined a b) h = refl
varies-unfixed (convert at sign own a) h = refl
varies-unfixed (length_of at cells) h = refl
varies-unfixed (asked at question a) h = refl

-- A number of any kind, as an index or an operand of `as`.
pub record IsWhole (c : Context) (t : ValueTree) : Type 0 where
  pub tree : NumTree
  pub is : t ≡ numeric tree
  pub whole : is_whole_number tree ≡ true
  pub well : well_part c tree ≡ true

pub whole-number : (c : Context) (m : Meaning) (t : ValueTree) → meant.is_number m ≡ true → HasMeaning c m t → IsWhole c t
whole-number c (meanings.Constant width value) t n h = record { tree = number h.at value; is = h.is; whole = refl; well = in-64 width value h.fits }
whole-number c (meanings.Typed (types.Num width lo hi)) t n h = record { tree = h.tree; is = h.is; whole = varies-whole h.tree h.varies; well = h.well }
whole-number c m t n h = absurd (cc n)
