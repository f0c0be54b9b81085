-- The parameters and locals of a method's functions have different names.
use Rattle.std.proofs.Common.{◌≡◌, ◌⊎◌, inl, inr, ℕ, suc, ◌+◌, Bool, true, false, not, ◌||◌, List, [], ◌∷◌, ◌++◌, map, Some, refl, sym, ap, ◌∙◌, subst, arith}
use Rattle.std.specs.Prelude.{if◌then◌else◌, bytes_eq, codes, slice_get}
use Rattle.std.specs.List.{list_all}
use Rattle.std.proofs.lemmas.Slice.Eq.{bytes_eq-Decides}
use Rattle.wf_ast.specs.declared.types.Ty.{Ty}
use Rattle.wf_ast.specs.declared.types.Ty.TheVariants as types
use Rattle.wf_ast.specs.TypedPackage.{Variable, kind_of}
use Rattle.wf_ast.proofs.Arena.{both_true}
use Rattle.c_text.specs.CTree.{Code, LocalTree}
use Rattle.c_meaning.specs.CTypes.{local_name}
use Rattle.c_meaning.specs.UnitForm.{is_among, all_distinct, args_params}
use Rattle.wf_exprs.specs.Reads.{code_reads}
use Rattle.wf_lower_stmts.specs.Forms.{Form, is_io}
use Rattle.wf_lower_laws.proofs.Apart.{neither, not_true}
use Rattle.wf_exprs.specs.Names.{named}
use Rattle.wf_lower.specs.Bodies.{io_locals, bytes_locals, local_of, locals_of, only_read}
use Rattle.wf_lower_laws.proofs.Names.{either_true, both_hold, Owned, owned_none, owned_next, distinct_next, after_prefix}

abbrev pub names : List Variable → List (List ℕ)
names xs = map (λ x. x.name) xs

-- ---- arguments: `a_x`, or `ap_x` and `al_x`

data ArgOf (x l : List ℕ) : Type 0 where
  whole : l ≡ codes "a_" ++ x → ArgOf x l
  pointer : l ≡ codes "ap_" ++ x → ArgOf x l
  long : l ≡ codes "al_" ++ x → ArgOf x l

abbrev second : List ℕ → ℕ
second [] = 0
second (a ∷ []) = 0
second (a ∷ b ∷ l) = b

arg_one : (x y l : List ℕ) → ArgOf x l → ArgOf y l → x ≡ y
arg_one x y l (whole e) (whole g) = after_prefix (codes "a_") x y (sym e ∙ g)
arg_one x y l (pointer e) (pointer g) = after_prefix (codes "ap_") x y (sym e ∙ g)
arg_one x y l (long e) (long g) = after_prefix (codes "al_") x y (sym e ∙ g)
arg_one x y l (whole e) (pointer g) = let h : 95 ≡ 112 = ap second (sym e ∙ g) in absurd (omega (arith, h))
arg_one x y l (whole e) (long g) = let h : 95 ≡ 108 = ap second (sym e ∙ g) in absurd (omega (arith, h))
arg_one x y l (pointer e) (whole g) = let h : 112 ≡ 95 = ap second (sym e ∙ g) in absurd (omega (arith, h))
arg_one x y l (pointer e) (long g) = let h : 112 ≡ 108 = ap second (sym e ∙ g) in absurd (omega (arith, h))
arg_one x y l (long e) (whole g) = let h : 108 ≡ 95 = ap second (sym e ∙ g) in absurd (omega (arith, h))
arg_one x y l (long e) (pointer g) = let h : 108 ≡ 112 = ap second (sym e ∙ g) in absurd (omega (arith, h))

-- What the names of a list hold of.
pub map_both : {A B : Type 0} (g : A → B) (xs ys : List A) → map g (xs ++ ys) ≡ map g xs ++ map g ys
map_both g [] ys = refl
map_both g (x ∷ xs) ys = ap (λ zs. g x ∷ zs) (map_both g xs ys)

pub all_both : (T : List ℕ → Bool) (ls ms : List (List ℕ)) → list_all T ls ≡ true → list_all T ms ≡ true → list_all T (ls ++ ms) ≡ true
all_both T [] ms h j = j
all_both T (l ∷ ls) ms h j =
    let p = both_true (T l) (list_all T ls) h in
    both_hold (T l) (list_all T (ls ++ ms)) p.0 (all_both T ls ms p.1 j)

one_alone : (l x : List ℕ) → is_among (x ∷ []) l ≡ true → l ≡ x
one_alone l x e = by (either_true (bytes_eq l x) false e)
  where
    by : (bytes_eq l x ≡ true) ⊎ (false ≡ true) → l ≡ x
    by (inl t) = (bytes_eq-Decides l x).0 t
    by (inr t) = absurd (cc t)

one_of_two : (l x y : List ℕ) → is_among (x ∷ y ∷ []) l ≡ true → (l ≡ x) ⊎ (l ≡ y)
one_of_two l x y e = by (either_true (bytes_eq l x) (bytes_eq l y || false) e)
  where
    by : (bytes_eq l x ≡ true) ⊎ ((bytes_eq l y || false) ≡ true) → (l ≡ x) ⊎ (l ≡ y)
    by (inl t) = inl ((bytes_eq-Decides l x).0 t)
    by (inr t) = inr (one_alone l y t)

two_differ : (x y : List ℕ) → (x ≡ y → ⊥) → all_distinct (x ∷ y ∷ []) ≡ true
two_differ x y h = by (bytes_eq x y) refl
  where
    by : (b : Bool) → bytes_eq x y ≡ b → all_distinct (x ∷ y ∷ []) ≡ true
    by true e = absurd (h ((bytes_eq-Decides x y).0 e))
    by false e = rw e refl

abbrev arg_labels : (name : List ℕ) → Ty → List (List ℕ)
arg_labels name ty = map (λ it. it.name) (args_params (record { name = name; kind = kind_of ty } ∷ []))

abbrev pub args_labels : List Variable → List (List ℕ)
args_labels xs = map (λ it. it.name) (args_params (map (λ x. record { name = x.name; kind = kind_of x.ty }) xs))

-- One name, or two, of an argument.
data ArgNames (name : List ℕ) (ls : List (List ℕ)) : Type 0 where
  alone : ls ≡ (codes "a_" ++ name) ∷ [] → ArgNames name ls
  paired : ls ≡ (codes "ap_" ++ name) ∷ (codes "al_" ++ name) ∷ [] → ArgNames name ls

arg_names : (name : List ℕ) (ty : Ty) → ArgNames name (arg_labels name ty)
arg_names name (types.Num width lo hi) = alone refl
arg_names name types.Flag = alone refl
arg_names name types.Status = alone refl
arg_names name types.Reader = alone refl
arg_names name types.Writer = alone refl
arg_names name (types.Slice width) = paired refl
arg_names name (types.Array width lo hi count) = alone refl
arg_names name (types.Part s) = alone refl

args_next : (x : Variable) (xs : List Variable) → args_labels (x ∷ xs) ≡ arg_labels x.name x.ty ++ args_labels xs
args_next x xs = by x.ty
  where
    by : (ty : Ty) → args_labels (record { name = x.name; ty = ty } ∷ xs) ≡ arg_labels x.name ty ++ args_labels xs
    by (types.Num width lo hi) = refl
    by types.Flag = refl
    by types.Status = refl
    by types.Reader = refl
    by types.Writer = refl
    by (types.Slice width) = refl
    by (types.Array width lo hi count) = refl
    by (types.Part s) = refl

arg_own : (name : List ℕ) (ls : List (List ℕ)) → ArgNames name ls → (l : List ℕ) → is_among ls l ≡ true → ArgOf name l
arg_own name ls (alone e) l a =
    let P : List (List ℕ) → Type 0 = λ ls. is_among ls l ≡ true in
    whole (one_alone l (codes "a_" ++ name) (subst P e a))
arg_own name ls (paired e) l a =
    let P : List (List ℕ) → Type 0 = λ ls. is_among ls l ≡ true in
    by (one_of_two l (codes "ap_" ++ name) (codes "al_" ++ name) (subst P e a))
  where
    by : (l ≡ codes "ap_" ++ name) ⊎ (l ≡ codes "al_" ++ name) → ArgOf name l
    by (inl t) = pointer t
    by (inr t) = long t

arg_distinct : (name : List ℕ) (ls : List (List ℕ)) → ArgNames name ls → all_distinct ls ≡ true
arg_distinct name ls (alone e) = rw e refl
arg_distinct name ls (paired e) = rw e (two_differ (codes "ap_" ++ name) (codes "al_" ++ name) (λ g. let h : 112 ≡ 108 = ap second g in absurd (omega (arith, h))))

args_owned : (xs : List Variable) → Owned ArgOf arg_one (names xs) (args_labels xs)
args_owned [] = owned_none ArgOf arg_one []
args_owned (x ∷ xs) =
    let P : List (List ℕ) → Type 0 = Owned ArgOf arg_one (names (x ∷ xs)) in
    subst P (sym (args_next x xs)) (owned_next ArgOf arg_one x.name (names xs) (arg_labels x.name x.ty) (args_labels xs) (arg_own x.name (arg_labels x.name x.ty) (arg_names x.name x.ty)) (args_owned xs))

pub args_distinct : (xs : List Variable) → all_distinct (names xs) ≡ true → all_distinct (args_labels xs) ≡ true
args_distinct [] h = refl
args_distinct (x ∷ xs) h =
    let p = both_true (not (is_among (names xs) x.name)) (all_distinct (names xs)) h in
    rw (args_next x xs)
    (distinct_next ArgOf arg_one x.name (names xs) (arg_labels x.name x.ty) (args_labels xs) p.0 (arg_own x.name (arg_labels x.name x.ty) (arg_names x.name x.ty)) (args_owned xs)
    (arg_distinct x.name (arg_labels x.name x.ty) (arg_names x.name x.ty)) (args_distinct xs p.1))

-- What holds of such names of all good names holds of them all.
module _ (T W : List ℕ → Bool) where
  arg_all : (name : List ℕ) (ls : List (List ℕ)) → W name ≡ true → ((x : List ℕ) → W x ≡ true → (T (codes "a_" ++ x) ≡ true) × ((T (codes "ap_" ++ x) ≡ true) × (T (codes "al_" ++ x) ≡ true))) → ArgNames name ls → list_all T ls ≡ true
  arg_all name ls w h (alone e) = rw e (both_hold (T (codes "a_" ++ name)) true (h name w).0 refl)
  arg_all name ls w h (paired e) = rw e (both_hold (T (codes "ap_" ++ name)) _ (h name w).1.0 (both_hold (T (codes "al_" ++ name)) true (h name w).1.1 refl))

  pub args_all : (xs : List Variable) → list_all W (names xs) ≡ true → ((x : List ℕ) → W x ≡ true → (T (codes "a_" ++ x) ≡ true) × ((T (codes "ap_" ++ x) ≡ true) × (T (codes "al_" ++ x) ≡ true))) → list_all T (args_labels xs) ≡ true
  args_all [] w h = refl
  args_all (x ∷ xs) w h =
      let p = both_true (W x.name) (list_all W (names xs)) w in
      rw (args_next x xs) (all_both T (arg_labels x.name x.ty) (args_labels xs) (arg_all x.name (arg_labels x.name x.ty) p.0 h (arg_names x.name x.ty)) (args_all xs p.1 h))

-- ---- places and ends of buffers: `p_x` and `e_x`

data IoOf (x l : List ℕ) : Type 0 where
  place : l ≡ codes "p_" ++ x → IoOf x l
  ending : l ≡ codes "e_" ++ x → IoOf x l

abbrev first : List ℕ → ℕ
first [] = 0
first (a ∷ l) = a

io_one : (x y l : List ℕ) → IoOf x l → IoOf y l → x ≡ y
io_one x y l (place e) (place g) = after_prefix (codes "p_") x y (sym e ∙ g)
io_one x y l (ending e) (ending g) = after_prefix (codes "e_") x y (sym e ∙ g)
io_one x y l (place e) (ending g) = let h : 112 ≡ 101 = ap first (sym e ∙ g) in absurd (omega (arith, h))
io_one x y l (ending e) (place g) = let h : 101 ≡ 112 = ap first (sym e ∙ g) in absurd (omega (arith, h))

abbrev pub labels : List LocalTree → List (List ℕ)
labels ls = map (λ it. it.name) (map local_name ls)

abbrev io_pair : (name : List ℕ) → List (List ℕ)
io_pair name = (codes "p_" ++ name) ∷ (codes "e_" ++ name) ∷ []

io_own : (name l : List ℕ) → is_among (io_pair name) l ≡ true → IoOf name l
io_own name l a = by (one_of_two l (codes "p_" ++ name) (codes "e_" ++ name) a)
  where
    by : (l ≡ codes "p_" ++ name) ⊎ (l ≡ codes "e_" ++ name) → IoOf name l
    by (inl t) = place t
    by (inr t) = ending t

io_pair_distinct : (name : List ℕ) → all_distinct (io_pair name) ≡ true
io_pair_distinct name = two_differ (codes "p_" ++ name) (codes "e_" ++ name) (λ g. let h : 112 ≡ 101 = ap first g in absurd (omega (arith, h)))

-- The variables are those from this number on.
abbrev pub From : Form → (n : ℕ) → List Variable → Type 0
From f n xs = (i : ℕ) (x : Variable) → slice_get xs i ≡ Some x → named f.names.args (n + i) ≡ x.name

from_next : (f : Form) (n : ℕ) (x : Variable) (xs : List Variable) → From f n (x ∷ xs) → From f (suc n) xs
from_next f n x xs h i y e =
    let same : n + suc i ≡ suc n + i = omega arith in
    let P : ℕ → Type 0 = λ m. named f.names.args m ≡ y.name in
    subst P same (h (suc i) y e)

from_first : (f : Form) (n : ℕ) (x : Variable) (xs : List Variable) → From f n (x ∷ xs) → named f.names.args n ≡ x.name
from_first f n x xs h =
    let same : n + 0 ≡ n = omega arith in
    let P : ℕ → Type 0 = λ m. named f.names.args m ≡ x.name in
    subst P same (h 0 x refl)

-- The names that some of the variables give, each a group of its own.
data Grouped (group : List ℕ → List (List ℕ)) : (xs : List Variable) (ls : List (List ℕ)) → Type 0 where
  ended : Grouped group [] []
  left_out : (x : Variable) (xs : List Variable) (ls : List (List ℕ)) → Grouped group xs ls → Grouped group (x ∷ xs) ls
  put_in : (x : Variable) (xs : List Variable) (ls : List (List ℕ)) → Grouped group xs ls → Grouped group (x ∷ xs) (group x.name ++ ls)

module _ (group : List ℕ → List (List ℕ)) (IsOf : (own name : List ℕ) → Type 0) (one : (x y l : List ℕ) → IsOf x l → IsOf y l → x ≡ y) (own : (name l : List ℕ) → is_among (group name) l ≡ true → IsOf name l)
    (apart : (name : List ℕ) → all_distinct (group name) ≡ true) where
  grouped_owned : (xs : List Variable) (ls : List (List ℕ)) → Grouped group xs ls → Owned IsOf one (names xs) ls
  grouped_owned _ _ ended = owned_none IsOf one []
  grouped_owned _ _ (left_out x xs ls g) = owned_next IsOf one x.name (names xs) [] ls (λ l a. absurd (cc a)) (grouped_owned xs ls g)
  grouped_owned _ _ (put_in x xs ls g) = owned_next IsOf one x.name (names xs) (group x.name) ls (own x.name) (grouped_owned xs ls g)

  grouped_distinct : (xs : List Variable) (ls : List (List ℕ)) → Grouped group xs ls → all_distinct (names xs) ≡ true → all_distinct ls ≡ true
  grouped_distinct _ _ ended d = refl
  grouped_distinct _ _ (left_out x xs ls g) d = grouped_distinct xs ls g (both_true (not (is_among (names xs) x.name)) (all_distinct (names xs)) d).1
  grouped_distinct _ _ (put_in x xs ls g) d =
      let p = both_true (not (is_among (names xs) x.name)) (all_distinct (names xs)) d in
      distinct_next IsOf one x.name (names xs) (group x.name) ls p.0 (own x.name) (grouped_owned xs ls g) (apart x.name) (grouped_distinct xs ls g p.1)

grouped_all : (T W : List ℕ → Bool) (group : List ℕ → List (List ℕ)) → ((x : List ℕ) → W x ≡ true → list_all T (group x) ≡ true) → (xs : List Variable) (ls : List (List ℕ)) → Grouped group xs ls
    → list_all W (names xs) ≡ true → list_all T ls ≡ true
grouped_all T W group h _ _ ended w = refl
grouped_all T W group h _ _ (left_out x xs ls g) w = grouped_all T W group h xs ls g (both_true (W x.name) (list_all W (names xs)) w).1
grouped_all T W group h _ _ (put_in x xs ls g) w =
    let p = both_true (W x.name) (list_all W (names xs)) w in
    all_both T (group x.name) ls (h x.name p.0) (grouped_all T W group h xs ls g p.1)

-- Those of the buffers among the variables from a number on.
io_grouped : (f : Form) (n : ℕ) (xs : List Variable) → From f n xs → Grouped io_pair xs (labels (io_locals f n xs))
io_grouped f n [] h = ended
io_grouped f n (x ∷ xs) h = by (is_io x.ty) refl (io_grouped f (suc n) xs (from_next f n x xs h))
  where
    by : (b : Bool) → is_io x.ty ≡ b → Grouped io_pair xs (labels (io_locals f (suc n) xs)) → Grouped io_pair (x ∷ xs) (labels (io_locals f n (x ∷ xs)))
    by false e g = rw e (left_out x xs (labels (io_locals f (suc n) xs)) g)
    by true e g =
        let P : List ℕ → Type 0 = λ z. Grouped io_pair (x ∷ xs) (io_pair z ++ labels (io_locals f (suc n) xs)) in
        rw e (subst P (sym (from_first f n x xs h)) (put_in x xs (labels (io_locals f (suc n) xs)) g))

pub io_distinct : (f : Form) (n : ℕ) (xs : List Variable) → From f n xs → all_distinct (names xs) ≡ true → all_distinct (labels (io_locals f n xs)) ≡ true
io_distinct f n xs h d = grouped_distinct io_pair IoOf io_one io_own io_pair_distinct xs (labels (io_locals f n xs)) (io_grouped f n xs h) d

pub io_all : (T W : List ℕ → Bool) (f : Form) (n : ℕ) (xs : List Variable) → From f n xs → list_all W (names xs) ≡ true → ((x : List ℕ) → W x ≡ true → (T (codes "p_" ++ x) ≡ true) × (T (codes "e_" ++ x) ≡ true))
    → list_all T (labels (io_locals f n xs)) ≡ true
io_all T W f n xs h w g =
    grouped_all T W io_pair (λ x k. both_hold (T (codes "p_" ++ x)) _ (g x k).0 (both_hold (T (codes "e_" ++ x)) true (g x k).1 refl)) xs (labels (io_locals f n xs)) (io_grouped f n xs h) w

-- ---- pointers to the bytes of buffers: `b_x`

data BytesOf (x l : List ℕ) : Type 0 where
  bytes_pointer : l ≡ codes "b_" ++ x → BytesOf x l

bytes_one : (x y l : List ℕ) → BytesOf x l → BytesOf y l → x ≡ y
bytes_one x y l (bytes_pointer e) (bytes_pointer g) = after_prefix (codes "b_") x y (sym e ∙ g)

abbrev bytes_alone : (name : List ℕ) → List (List ℕ)
bytes_alone name = (codes "b_" ++ name) ∷ []

bytes_own : (name l : List ℕ) → is_among (bytes_alone name) l ≡ true → BytesOf name l
bytes_own name l a = bytes_pointer (one_alone l (codes "b_" ++ name) a)

bytes_grouped : (f : Form) (n : ℕ) (xs : List Variable) → From f n xs → Grouped bytes_alone xs (labels (bytes_locals f n xs))
bytes_grouped f n [] h = ended
bytes_grouped f n (x ∷ xs) h = by (is_io x.ty) refl (bytes_grouped f (suc n) xs (from_next f n x xs h))
  where
    by : (b : Bool) → is_io x.ty ≡ b → Grouped bytes_alone xs (labels (bytes_locals f (suc n) xs)) → Grouped bytes_alone (x ∷ xs) (labels (bytes_locals f n (x ∷ xs)))
    by false e g = rw e (left_out x xs (labels (bytes_locals f (suc n) xs)) g)
    by true e g =
        let P : List ℕ → Type 0 = λ z. Grouped bytes_alone (x ∷ xs) (bytes_alone z ++ labels (bytes_locals f (suc n) xs)) in
        rw e (subst P (sym (from_first f n x xs h)) (put_in x xs (labels (bytes_locals f (suc n) xs)) g))

pub bytes_distinct : (f : Form) (n : ℕ) (xs : List Variable) → From f n xs → all_distinct (names xs) ≡ true → all_distinct (labels (bytes_locals f n xs)) ≡ true
bytes_distinct f n xs h d = grouped_distinct bytes_alone BytesOf bytes_one bytes_own (λ name. refl) xs (labels (bytes_locals f n xs)) (bytes_grouped f n xs h) d

pub bytes_all : (T W : List ℕ → Bool) (f : Form) (n : ℕ) (xs : List Variable) → From f n xs → list_all W (names xs) ≡ true → ((x : List ℕ) → W x ≡ true → T (codes "b_" ++ x) ≡ true)
    → list_all T (labels (bytes_locals f n xs)) ≡ true
bytes_all T W f n xs h w g = grouped_all T W bytes_alone (λ x k. both_hold (T (codes "b_" ++ x)) true (g x k) refl) xs (labels (bytes_locals f n xs)) (bytes_grouped f n xs h) w

-- ---- locals: `v_x`, or `vp_x` and `vl_x`

data LocalOf (x l : List ℕ) : Type 0 where
  whole_local : l ≡ codes "v_" ++ x → LocalOf x l
  pointer_local : l ≡ codes "vp_" ++ x → LocalOf x l
  long_local : l ≡ codes "vl_" ++ x → LocalOf x l

local_one : (x y l : List ℕ) → LocalOf x l → LocalOf y l → x ≡ y
local_one x y l (whole_local e) (whole_local g) = after_prefix (codes "v_") x y (sym e ∙ g)
local_one x y l (pointer_local e) (pointer_local g) = after_prefix (codes "vp_") x y (sym e ∙ g)
local_one x y l (long_local e) (long_local g) = after_prefix (codes "vl_") x y (sym e ∙ g)
local_one x y l (whole_local e) (pointer_local g) = let h : 95 ≡ 112 = ap second (sym e ∙ g) in absurd (omega (arith, h))
local_one x y l (whole_local e) (long_local g) = let h : 95 ≡ 108 = ap second (sym e ∙ g) in absurd (omega (arith, h))
local_one x y l (pointer_local e) (whole_local g) = let h : 112 ≡ 95 = ap second (sym e ∙ g) in absurd (omega (arith, h))
local_one x y l (pointer_local e) (long_local g) = let h : 112 ≡ 108 = ap second (sym e ∙ g) in absurd (omega (arith, h))
local_one x y l (long_local e) (whole_local g) = let h : 108 ≡ 95 = ap second (sym e ∙ g) in absurd (omega (arith, h))
local_one x y l (long_local e) (pointer_local g) = let h : 108 ≡ 112 = ap second (sym e ∙ g) in absurd (omega (arith, h))

abbrev local_pair : (name : List ℕ) → List (List ℕ)
local_pair name = (codes "vp_" ++ name) ∷ (codes "vl_" ++ name) ∷ []

data LocalNames (name : List ℕ) (ls : List (List ℕ)) : Type 0 where
  no_local : ls ≡ [] → LocalNames name ls
  one_local : ls ≡ (codes "v_" ++ name) ∷ [] → LocalNames name ls
  two_locals : ls ≡ local_pair name → LocalNames name ls

local_names : (name : List ℕ) (ty : Ty) → LocalNames name (labels (local_of (record { name = name; ty = ty })))
local_names name (types.Num width lo hi) = one_local refl
local_names name types.Flag = one_local refl
local_names name types.Status = one_local refl
local_names name types.Reader = no_local refl
local_names name types.Writer = no_local refl
local_names name (types.Slice width) = two_locals refl
local_names name (types.Array width lo hi count) = no_local refl
local_names name (types.Part s) = no_local refl

pub labels_both : (ls ms : List LocalTree) → labels (ls ++ ms) ≡ labels ls ++ labels ms
labels_both [] ms = refl
labels_both (l ∷ ls) ms = ap (λ zs. l.name ∷ zs) (labels_both ls ms)

local_own : (name : List ℕ) (ls : List (List ℕ)) → LocalNames name ls → (l : List ℕ) → is_among ls l ≡ true → LocalOf name l
local_own name ls (no_local e) l a =
    let P : List (List ℕ) → Type 0 = λ ls. is_among ls l ≡ true in
    let none : is_among [] l ≡ true = subst P e a in
    absurd (cc none)
local_own name ls (one_local e) l a =
    let P : List (List ℕ) → Type 0 = λ ls. is_among ls l ≡ true in
    whole_local (one_alone l (codes "v_" ++ name) (subst P e a))
local_own name ls (two_locals e) l a =
    let P : List (List ℕ) → Type 0 = λ ls. is_among ls l ≡ true in
    by (one_of_two l (codes "vp_" ++ name) (codes "vl_" ++ name) (subst P e a))
  where
    by : (l ≡ codes "vp_" ++ name) ⊎ (l ≡ codes "vl_" ++ name) → LocalOf name l
    by (inl t) = pointer_local t
    by (inr t) = long_local t

local_distinct : (name : List ℕ) (ls : List (List ℕ)) → LocalNames name ls → all_distinct ls ≡ true
local_distinct name ls (no_local e) = rw e refl
local_distinct name ls (one_local e) = rw e refl
local_distinct name ls (two_locals e) = rw e (two_differ (codes "vp_" ++ name) (codes "vl_" ++ name) (λ g. let h : 112 ≡ 108 = ap second g in absurd (omega (arith, h))))

locals_owned : (xs : List Variable) → Owned LocalOf local_one (names xs) (labels (locals_of xs))
locals_owned [] = owned_none LocalOf local_one []
locals_owned (x ∷ xs) =
    let P : List (List ℕ) → Type 0 = Owned LocalOf local_one (names (x ∷ xs)) in
    subst P (sym (labels_both (local_of x) (locals_of xs))) (owned_next LocalOf local_one x.name (names xs) (labels (local_of x)) (labels (locals_of xs)) (local_own x.name (labels (local_of x)) (local_names x.name x.ty)) (locals_owned xs))

pub locals_distinct : (xs : List Variable) → all_distinct (names xs) ≡ true → all_distinct (labels (locals_of xs)) ≡ true
locals_distinct [] h = refl
locals_distinct (x ∷ xs) h =
    let p = both_true (not (is_among (names xs) x.name)) (all_distinct (names xs)) h in
    rw (labels_both (local_of x) (locals_of xs))
    (distinct_next LocalOf local_one x.name (names xs) (labels (local_of x)) (labels (locals_of xs)) p.0 (local_own x.name (labels (local_of x)) (local_names x.name x.ty)) (locals_owned xs)
    (local_distinct x.name (labels (local_of x)) (local_names x.name x.ty)) (locals_distinct xs p.1))

module _ (T W : List ℕ → Bool) where
  local_all : (name : List ℕ) (ls : List (List ℕ)) → W name ≡ true → ((x : List ℕ) → W x ≡ true → (T (codes "v_" ++ x) ≡ true) × ((T (codes "vp_" ++ x) ≡ true) × (T (codes "vl_" ++ x) ≡ true))) → LocalNames name ls → list_all T ls ≡ true
  local_all name ls w h (no_local e) = rw e refl
  local_all name ls w h (one_local e) = rw e (both_hold (T (codes "v_" ++ name)) true (h name w).0 refl)
  local_all name ls w h (two_locals e) = rw e (both_hold (T (codes "vp_" ++ name)) _ (h name w).1.0 (both_hold (T (codes "vl_" ++ name)) true (h name w).1.1 refl))

  pub locals_all : (xs : List Variable) → list_all W (names xs) ≡ true → ((x : List ℕ) → W x ≡ true → (T (codes "v_" ++ x) ≡ true) × ((T (codes "vp_" ++ x) ≡ true) × (T (codes "vl_" ++ x) ≡ true))) → list_all T (labels (locals_of xs)) ≡ true
  locals_all [] w h = refl
  locals_all (x ∷ xs) w h =
      let p = both_true (W x.name) (list_all W (names xs)) w in
      rw (labels_both (local_of x) (locals_of xs)) (all_both T (labels (local_of x)) (labels (locals_of xs)) (local_all x.name (labels (local_of x)) p.0 h (local_names x.name x.ty)) (locals_all xs p.1 h))

  -- Further locals that are read.
  pub read_all : (code : Code) (ls : List LocalTree) → list_all T (labels ls) ≡ true → list_all T (labels (only_read code ls)) ≡ true
  read_all code [] h = refl
  read_all code (l ∷ ls) h =
      let p = both_true (T l.name) (list_all T (labels ls)) h in
      by (code_reads l.name code) p.0 (read_all code ls p.1)
    where
      by : (b : Bool) → T l.name ≡ true → list_all T (labels (only_read code ls)) ≡ true → list_all T (labels (if b then l ∷ only_read code ls else only_read code ls)) ≡ true
      by true t k = both_hold (T l.name) _ t k
      by false t k = k

fewer_read : (code : Code) (x : List ℕ) (ms : List LocalTree) → is_among (labels ms) x ≡ false → is_among (labels (only_read code ms)) x ≡ false
fewer_read code x [] h = refl
fewer_read code x (m ∷ ms) h =
    let p = neither (bytes_eq x m.name) (is_among (labels ms) x) h in
    perhaps (code_reads m.name code) p.0 (fewer_read code x ms p.1)
  where
    perhaps : (b : Bool) → bytes_eq x m.name ≡ false → is_among (labels (only_read code ms)) x ≡ false → is_among (labels (if b then m ∷ only_read code ms else only_read code ms)) x ≡ false
    perhaps true e k = rw (e, k) refl
    perhaps false e k = k

pub read_distinct : (code : Code) (ls : List LocalTree) → all_distinct (labels ls) ≡ true → all_distinct (labels (only_read code ls)) ≡ true
read_distinct code [] h = refl
read_distinct code (l ∷ ls) h =
    let p = both_true (not (is_among (labels ls) l.name)) (all_distinct (labels ls)) h in
    by (code_reads l.name code) p.0 (read_distinct code ls p.1)
  where
    by : (b : Bool) → not (is_among (labels ls) l.name) ≡ true → all_distinct (labels (only_read code ls)) ≡ true → all_distinct (labels (if b then l ∷ only_read code ls else only_read code ls)) ≡ true
    by true n k = rw (fewer_read code l.name ls (not_true (is_among (labels ls) l.name) n)) k
    by false n k = k
