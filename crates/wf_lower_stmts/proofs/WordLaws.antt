-- Names that begin with a word of the compiler's own and go on with words of the source.
use Rattle.std.proofs.Common.{◌≡◌, ◌∙◌, ap, ℕ, ◌^◌, ◌<◌, ◌+◌, ◌%◌, Bool, true, false, ◌&&◌, ◌||◌, nat_le, List, [], ◌∷◌, ◌++◌, Some, refl, arith, codes, decimal, Result, Ok, Err, IfOk}
use Rattle.std.specs.Prelude.{slice_get, length, nat_lt}
use Rattle.std.specs.List.{list_all}
use Rattle.std.proofs.lemmas.Fmt.{decimal_by_steps}
use Rattle.std.proofs.lemmas.Bool.{le-leb}
use Rattle.std.proofs.lemmas.Bool.Decides.{nat_tests}
use Rattle.std.proofs.lemmas.List.Folds.{list_all-append}
use Rattle.std.proofs.lemmas.Option.{slice_get-map}
use Rattle.c_text.specs.CSpelling.{is_between, begins_name, is_word_byte, is_reserved}
use Rattle.c_text.specs.CGrammar.{IsName}
use Rattle.wf_ast.specs.declared.declarations.Method.{Method}
use Rattle.wf_ast.specs.declared.declarations.Struct.{Struct}
use Rattle.wf_ast.specs.declared.numbers.TextId.{TextId}
use Rattle.wf_ast.specs.declared.typed_nodes.TypedNodes.{TypedNodes}
use Rattle.wf_ast.specs.TypedPackage.{package_of, struct_of}
use Rattle.wf_ast.specs.TypedTrees.{text_of}
use Rattle.wf_ast.proofs.Arena.{both_true}
use Rattle.wf_exprs.specs.Names.{struct_called, struct_type}
use Rattle.wf_exprs.proofs.Prefixes.{list_all-at}
use Rattle.wf_lower_stmts.specs.BodyNodes.{HasWords, is_spelt_struct, is_spelt_method, is_word_at}

and_true : (a b : Bool) → a ≡ true → b ≡ true → (a && b) ≡ true
and_true a b h k = rw (h, k) refl

pub joined_words : (xs ys : List ℕ) → list_all is_word_byte xs ≡ true → list_all is_word_byte ys ≡ true → list_all is_word_byte (xs ++ ys) ≡ true
joined_words xs ys h k = list_all-append is_word_byte xs ys ∙ and_true (list_all is_word_byte xs) (list_all is_word_byte ys) h k

or_right : (a b : Bool) → b ≡ true → (a || b) ≡ true
or_right true b h = refl
or_right false b h = h

digit_is_word : (n : ℕ) → n < 10 → is_word_byte (48 + n) ≡ true
digit_is_word n h = or_right (begins_name (48 + n)) (is_between 48 57 (48 + n)) (and_true (nat_le 48 (48 + n)) (nat_le (48 + n) 57) (le-leb 48 (48 + n) (omega arith)) (le-leb (48 + n) 57 (omega (arith, h))))

last_below : (n : ℕ) → n % 10 < 10
last_below n = grind (arith)

one_more : (a : List ℕ) (b : ℕ) → list_all is_word_byte a ≡ true → is_word_byte b ≡ true → list_all is_word_byte (a ++ b ∷ []) ≡ true
one_more a b h k = joined_words a (b ∷ []) h (and_true (is_word_byte b) true k refl)

digits_are_word : (n : ℕ) → n < 2 ^ 64 → list_all is_word_byte (decimal n) ≡ true
digits_are_word n fits = decimal_by_steps (λ (m : ℕ) (ds : List ℕ). list_all is_word_byte ds ≡ true)
    (λ m h. and_true (is_word_byte (48 + m)) true (digit_is_word m h) refl)
    (λ m ds h k. one_more ds (48 + m % 10) k (digit_is_word (m % 10) (last_below m)))
    n fits

pub again_is_name : (n : ℕ) → n < 2 ^ 64 → IsName (codes "again_" ++ decimal n)
unfolding is_reserved
again_is_name n h = ap (λ x. x && true) (digits_are_word n h)

pub behind_is_name : (n : ℕ) → n < 2 ^ 64 → IsName (codes "behind_" ++ decimal n)
unfolding is_reserved
behind_is_name n h = ap (λ x. x && true) (digits_are_word n h)

pub wuffs_is_name : (x : List ℕ) → list_all is_word_byte x ≡ true → IsName (codes "wuffs_" ++ x)
unfolding is_reserved
wuffs_is_name x h = ap (λ y. y && true) h

pub body_is_name : (x : List ℕ) → list_all is_word_byte x ≡ true → IsName (codes "body_" ++ x)
unfolding is_reserved
body_is_name x h = ap (λ y. y && true) h

-- The name of a struct.
pub struct_spelt : (nodes : TypedNodes) → HasWords nodes → (s : ℕ) (it : Struct) → slice_get nodes.structs s ≡ Some it → is_word_at nodes it.name ≡ true
struct_spelt nodes words s it is = (both_true (is_word_at nodes it.name) _ (list_all-at (is_spelt_struct nodes) nodes.structs s it words.struct_words is)).0

pub struct_called_is : (nodes : TypedNodes) (s : ℕ) (it : Struct) → slice_get nodes.structs s ≡ Some it → struct_called (package_of nodes) s ≡ text_of nodes it.name
unfolding package_of
struct_called_is nodes s it is = let e = slice_get-map (struct_of nodes) nodes.structs s in rw (e, is) refl

pub word_there : (nodes : TypedNodes) (t : TextId) → is_word_at nodes t ≡ true → t.0 < length nodes.texts
word_there nodes t h = let p = (both_true (nat_lt t.0 (length nodes.texts)) (list_all is_word_byte (text_of nodes t)) h).0 in grind (arith, nat_tests, p)

pub word_is : (nodes : TypedNodes) (t : TextId) → is_word_at nodes t ≡ true → list_all is_word_byte (text_of nodes t) ≡ true
word_is nodes t h = (both_true (nat_lt t.0 (length nodes.texts)) (list_all is_word_byte (text_of nodes t)) h).1

-- The type of a struct.
pub struct_type_is : (nodes : TypedNodes) (s : ℕ) (p q : List ℕ) → p ≡ nodes.package → q ≡ struct_called (package_of nodes) s → codes "wuffs_" ++ (p ++ (codes "__" ++ q)) ≡ struct_type (package_of nodes) s
unfolding package_of
struct_type_is nodes s p q e f = ap (λ x. codes "wuffs_" ++ (x ++ (codes "__" ++ q))) e ∙ ap (λ x. codes "wuffs_" ++ (nodes.package ++ (codes "__" ++ x))) f

pub ok_map : {A E : Type 0} (P Q : A → Type 0) (r : Result A E) → ((a : A) → P a → Q a) → IfOk r P → IfOk r Q
ok_map P Q (Ok a) f h = f a h
ok_map P Q (Err e) f h = h

pub initialize_is_name : (nodes : TypedNodes) (s : ℕ) → list_all is_word_byte (struct_type (package_of nodes) s) ≡ true → IsName (struct_type (package_of nodes) s ++ codes "__initialize")
initialize_is_name nodes s h =
    let x = (package_of nodes).package_name ++ (codes "__" ++ struct_called (package_of nodes) s) in
    wuffs_is_name (x ++ codes "__initialize") (joined_words x (codes "__initialize") h refl)

-- What a method with good names has.
pub spelt_known : (nodes : TypedNodes) (m : Method) → is_spelt_method nodes m ≡ true → m.of.0 < length nodes.structs
spelt_known nodes m h = let p = (both_true (nat_lt m.of.0 (length nodes.structs)) _ h).0 in grind (arith, nat_tests, p)

pub spelt_word : (nodes : TypedNodes) (m : Method) → is_spelt_method nodes m ≡ true → is_word_at nodes m.name ≡ true
spelt_word nodes m h = (both_true (is_word_at nodes m.name) _ (both_true (nat_lt m.of.0 (length nodes.structs)) _ h).1).0

nil_behind : (xs : List ℕ) → xs ++ [] ≡ xs
nil_behind [] = refl
nil_behind (x ∷ xs) = ap (λ l. x ∷ l) (nil_behind xs)

-- The name of an entry.
pub entry_is : (nodes : TypedNodes) (s : ℕ) (of name : List ℕ) → of ≡ struct_type (package_of nodes) s → of ++ (codes "__" ++ (name ++ [])) ≡ struct_type (package_of nodes) s ++ (codes "__" ++ name)
entry_is nodes s of name e = ap (λ l. l ++ (codes "__" ++ (name ++ []))) e ∙ ap (λ l. struct_type (package_of nodes) s ++ (codes "__" ++ l)) (nil_behind name)

pub entry_is_name : (nodes : TypedNodes) (s : ℕ) (name : List ℕ) → list_all is_word_byte (struct_type (package_of nodes) s) ≡ true → list_all is_word_byte name ≡ true → IsName (struct_type (package_of nodes) s ++ (codes "__" ++ name))
entry_is_name nodes s name h k =
    let x = (package_of nodes).package_name ++ (codes "__" ++ struct_called (package_of nodes) s) in
    wuffs_is_name (x ++ (codes "__" ++ name)) (joined_words x (codes "__" ++ name) h (joined_words (codes "__") name refl k))
