-- The names of a function's parameters and locals.
use Rattle.std.specs.Prelude.{◌≡◌, ℕ, Bool, true, false, not, ◌&&◌, ◌||◌, nat_eq, nat_le, List, [], ◌∷◌, map, ◌++◌, Some, slice_get, codes}
use Rattle.std.specs.List.{list_all, list_any}
use Rattle.wf_ast.specs.TypedPackage.{Variable, PackageTree}
use Rattle.c_text.specs.CSpelling.{is_word_byte, is_name}
use Rattle.c_text.specs.CTree.{ItemTree, function_item}
use Rattle.c_meaning.specs.CTypes.{local_name}
use Rattle.c_meaning.specs.UnitForm.{is_among, all_distinct, item_name, own_names}
use Rattle.wf_lower.specs.Unit.{lowered_unit}

-- The names of variables are all different, and made of letters, digits and `_`.
abbrev pub are_named : List Variable → Bool
are_named xs = all_distinct (map (λ x. x.name) xs) && list_all (λ x. list_all is_word_byte x.name) xs

-- So are the arguments of each method of a package, and its locals.
abbrev pub HasNames : PackageTree → Type 0
HasNames p = list_all (λ m. are_named m.args && are_named m.locals) p.methods ≡ true

-- The name begins so.
abbrev pub begins : List ℕ → List ℕ → Bool
begins [] name = true
begins (b ∷ bs) [] = false
begins (b ∷ bs) (c ∷ cs) = nat_eq b c && begins bs cs

-- A name of the headers that a text includes, `stddef.h`, `stdint.h` and `string.h`, or one that they may get (ISO/IEC 9899:1999,
-- 7.17, 7.18, 7.21, 7.26.8, 7.26.11). Their macros but `offsetof` begin with a capital.
abbrev pub is_capital : List ℕ → Bool
is_capital [] = false
is_capital (b ∷ bs) = nat_le 65 b && nat_le b 90

abbrev pub is_header_name : List ℕ → Bool
is_header_name name =
    is_capital name || (list_any (λ front. begins front name) (codes "str" ∷ codes "mem" ∷ codes "wcs" ∷ codes "int" ∷ codes "uint" ∷ [])
    || is_among (codes "ptrdiff_t" ∷ codes "size_t" ∷ codes "wchar_t" ∷ codes "offsetof" ∷ []) name)

abbrev pub is_own_name : List ℕ → Bool
is_own_name name = is_name name && not (is_header_name name)

-- The parameters and locals of a function have different names of C, none of which is a word of C or of those headers, or the name
-- of an item or of a function of the library.
abbrev pub OwnNames : (all : List (List ℕ)) → ItemTree → Type 0
OwnNames all (function_item linkage result_type name params locals body) =
    (own_names (params ++ map local_name locals) all ≡ true) × (list_all (λ it. is_own_name it.name) (params ++ map local_name locals) ≡ true)
OwnNames all item = Unit {0}

-- So is each function of the text of a package with such names.
abbrev pub TextsNameApart : Type 0
TextsNameApart =
    (p : PackageTree) (number : ℕ) (item : ItemTree) → HasNames p → slice_get (lowered_unit p) number ≡ Some item → OwnNames (map item_name (lowered_unit p)) item
