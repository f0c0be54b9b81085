-- An item by itself, apart from what the package asks of it (6.7, 6.9).
use Rattle.std.specs.Prelude.{ℕ, Bool, true, not, ◌++◌, ◌&&◌, if◌then◌else◌, List, [], ◌∷◌, ◌+◌, Option, Some, None, bytes_eq}
use Rattle.c_text.specs.CTree.{ItemTree, FieldTree}
use Rattle.c_meaning.specs.CTypes.{StructDecl}
use Rattle.c_meaning.specs.UnitForm.{item_name, is_io_buffer, free_name, formed_content, formed_field, is_among}

-- The number of the first item of this name, where these are the items from number `i` on.
abbrev pub item_at : (i : ℕ) → List ItemTree → List ℕ → Option ℕ
item_at i [] name = None
item_at i (item ∷ items) name = if bytes_eq name (item_name item) then Some i else item_at (i + 1) items name

abbrev pub formed_alone : (before : List ItemTree) → (all : List (List ℕ)) → ItemTree → Bool
formed_alone [] all item = is_io_buffer item
formed_alone (first ∷ others) all item = free_name (first ∷ others) item && formed_content (first ∷ others) all item

-- The fields from here on are formed, with names that differ from the ones seen and from each other.
abbrev pub fields_fit : List StructDecl → (seen : List (List ℕ)) → List FieldTree → Bool
fields_fit structs seen [] = true
fields_fit structs seen (f ∷ fs) = formed_field structs f && (not (is_among seen f.name) && fields_fit structs (seen ++ f.name ∷ []) fs)
