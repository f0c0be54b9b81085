-- The texts of a package, each once, in the order in which its tokens first have them.
use Rattle.std.specs.Prelude.{ℕ, Bool, false, ◌||◌, Option, None, Some, List, [], ◌∷◌, ◌++◌, if◌then◌else◌}
use Rattle.std.specs.Str.{bytes_eq}
use Rattle.wf_tokens.specs.declared.kinds.TokenKind.{TokenKind}
use Rattle.wf_tokens.specs.declared.kinds.TokenKind.TheVariants as spelt
use Rattle.wf_tokens.specs.Spelling.{Item}
use Rattle.wf_parse.specs.Kinds.{unquoted}

-- The text that a token brings into the tree: a name, or what stands between its quotes.
abbrev pub text_of : TokenKind → List ℕ → Option (List ℕ)
text_of spelt.Name text = Some text
text_of spelt.Text text = Some (unquoted text)
text_of _ text = None

abbrev pub is_among : List (List ℕ) → List ℕ → Bool
is_among [] text = false
is_among (first ∷ others) text = bytes_eq first text || is_among others text

-- A text joins the known ones at their end where it isn't among them.
abbrev pub with_text : List (List ℕ) → Option (List ℕ) → List (List ℕ)
with_text known None = known
with_text known (Some text) = if is_among known text then known else known ++ text ∷ []

-- The texts after these tokens.
abbrev pub texts_behind : (known : List (List ℕ)) → List Item → List (List ℕ)
texts_behind known [] = known
texts_behind known (item ∷ items) = texts_behind (with_text known (text_of item.kind item.text)) items
