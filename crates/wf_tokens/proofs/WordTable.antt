-- The words by their first bytes: every word is found.
use Rattle.std.proofs.Common.{◌≡◌, ◌≢◌, ◌∙◌, ap, ℕ, Bool, true, false, ◌&&◌, Option, Some, None, List, drop, length, refl, sym, nat_eq, IfSome, IfNone}
use Rattle.std.specs.List.{find, list_all}
use Rattle.std.specs.Cmp.Lexicographic.{pointwise, same_text}
use Rattle.wf_tokens.specs.declared.words.Word.{Word}
use Rattle.wf_tokens.specs.declared.words.Word.TheVariants as word
use Rattle.wf_tokens.specs.Words.{likely_word, word_text, words_from}
use Rattle.wf_tokens.specs.Runs.{begins, first_byte, is_letter, is_run}
use Rattle.wf_tokens.proofs.Tables.{found-passes}

abbrev pub found : List ℕ → Option Word
found text = find (λ word. pointwise nat_eq (word_text word) text) (words_from (first_byte text))

pub if_found : (text : List ℕ) (o : Option Word) → o ≡ found text → IfSome o (λ word. text ≡ word_text word)
if_found text None h = tt
if_found text (Some word) h = sym (same_text (word_text word) text (sym (found-passes (λ (w : Word). pointwise nat_eq (word_text w) text) (words_from (first_byte text)) word (sym h))))

-- Two words that are written alike are one.
pub word_back : (word : Word) → found (word_text word) ≡ Some word
word_back word.And = refl
word_back word.Args = refl
word_back word.Array = refl
word_back word.As = refl
word_back word.Assert = refl
word_back word.Base = refl
word_back word.Break = refl
word_back word.Const = refl
word_back word.Continue = refl
word_back word.Else = refl
word_back word.Endwhile = refl
word_back word.False = refl
word_back word.Func = refl
word_back word.If = refl
word_back word.Inv = refl
word_back word.Not = refl
word_back word.Nothing = refl
word_back word.Ok = refl
word_back word.Or = refl
word_back word.Post = refl
word_back word.Pre = refl
word_back word.Pri = refl
word_back word.Pub = refl
word_back word.Return = refl
word_back word.Slice = refl
word_back word.Status = refl
word_back word.Struct = refl
word_back word.This = refl
word_back word.True = refl
word_back word.Var = refl
word_back word.Via = refl
word_back word.While = refl
word_back word.Yield = refl

-- Where no word is found, the text is none.
pub if_none : (text : List ℕ) (o : Option Word) → o ≡ found text → IfNone o ((word : Word) → text ≢ word_text word)
if_none text None h = λ word e. let back : found text ≡ Some word = ap found e ∙ word_back word in absurd (cc (h, back))
if_none text (Some word) h = tt

-- The only word that a text can be.
abbrev pub likely : List ℕ → Option Word
likely text = likely_word (first_byte text) (first_byte (drop 1 text)) (first_byte (drop 2 text)) (length text)

likely_back : (word : Word) → likely (word_text word) ≡ Some word
likely_back word.And = refl
likely_back word.Args = refl
likely_back word.Array = refl
likely_back word.As = refl
likely_back word.Assert = refl
likely_back word.Base = refl
likely_back word.Break = refl
likely_back word.Const = refl
likely_back word.Continue = refl
likely_back word.Else = refl
likely_back word.Endwhile = refl
likely_back word.False = refl
likely_back word.Func = refl
likely_back word.If = refl
likely_back word.Inv = refl
likely_back word.Not = refl
likely_back word.Nothing = refl
likely_back word.Ok = refl
likely_back word.Or = refl
likely_back word.Post = refl
likely_back word.Pre = refl
likely_back word.Pri = refl
likely_back word.Pub = refl
likely_back word.Return = refl
likely_back word.Slice = refl
likely_back word.Status = refl
likely_back word.Struct = refl
likely_back word.This = refl
likely_back word.True = refl
likely_back word.Var = refl
likely_back word.Via = refl
likely_back word.While = refl
likely_back word.Yield = refl

-- What is found is the likely word, and is written so.
found_likely : (text : List ℕ) (o : Option Word) → o ≡ found text → IfSome o (λ word. likely text ≡ Some word)
found_likely text None h = tt
found_likely text (Some word) h = ap likely (if_found text (Some word) h) ∙ likely_back word

found_written : (text : List ℕ) (o : Option Word) → o ≡ found text → IfSome o (λ word. pointwise nat_eq (word_text word) text ≡ true)
found_written text None h = tt
found_written text (Some word) h = found-passes (λ (w : Word). pointwise nat_eq (word_text w) text) (words_from (first_byte text)) word (sym h)

-- Where the likely word isn't written so, none is found.
pub unwritten_not_found : (text : List ℕ) (word : Word) → likely text ≡ Some word → pointwise nat_eq (word_text word) text ≡ false → None ≡ found text
unwritten_not_found text word is unwritten = by_found (found text) refl
  where
    by_found : (o : Option Word) → o ≡ found text → None ≡ found text
    by_found None h = h
    by_found (Some other) h =
        let l : likely text ≡ Some other = found_likely text (Some other) h in
        let same : other ≡ word = cc (is, l) in
        let w : pointwise nat_eq (word_text other) text ≡ true = found_written text (Some other) h in
        let v : pointwise nat_eq (word_text word) text ≡ true = rw same at w in
        absurd (cc (unwritten, v))

-- A word is a run that begins with a letter.
abbrev pub is_word_run : List ℕ → Bool
is_word_run text = begins is_letter text && list_all is_run text

pub word_runs : (word : Word) → is_word_run (word_text word) ≡ true
word_runs word.And = refl
word_runs word.Args = refl
word_runs word.Array = refl
word_runs word.As = refl
word_runs word.Assert = refl
word_runs word.Base = refl
word_runs word.Break = refl
word_runs word.Const = refl
word_runs word.Continue = refl
word_runs word.Else = refl
word_runs word.Endwhile = refl
word_runs word.False = refl
word_runs word.Func = refl
word_runs word.If = refl
word_runs word.Inv = refl
word_runs word.Not = refl
word_runs word.Nothing = refl
word_runs word.Ok = refl
word_runs word.Or = refl
word_runs word.Post = refl
word_runs word.Pre = refl
word_runs word.Pri = refl
word_runs word.Pub = refl
word_runs word.Return = refl
word_runs word.Slice = refl
word_runs word.Status = refl
word_runs word.Struct = refl
word_runs word.This = refl
word_runs word.True = refl
word_runs word.Var = refl
word_runs word.Via = refl
word_runs word.While = refl
word_runs word.Yield = refl
