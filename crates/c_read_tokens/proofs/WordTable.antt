-- What is found among the words that begin with the first byte is what the grammar tells of a word.
use Rattle.std.proofs.Common.{◌≡◌, ℕ, Bool, true, false, ◌&&◌, ◌||◌, nat_eq, Option, Some, None, List, [], ◌∷◌, refl, sym, cond, is_some, ◌∙◌, ap, subst}
use Rattle.std.specs.List.{find, list_all, list_any}
use Rattle.std.specs.Cmp.Lexicographic.{pointwise, same_text}
use Rattle.c_text.specs.declared.tokens.CWord.{CWord}
use Rattle.c_text.specs.declared.tokens.CWord.TheVariants as words
use Rattle.c_text.specs.CSpelling.{word_bytes, is_reserved, reserved_words}
use Rattle.c_read_grammar.specs.FirstToken.{word_of}
use Rattle.c_read_tokens.specs.declared.words.Reserved.{Reserved}
use Rattle.c_read_tokens.specs.declared.words.Reserved.TheVariants as reserved
use Rattle.c_read_tokens.specs.WordLists.{first_byte, words_from, reserved_bytes, reserved_from}

-- What is found passes the test.
passes : {X : Type 0} (test : X → Bool) (xs : List X) (x : X) → find test xs ≡ Some x → test x ≡ true
passes test [] x h = absurd cc
passes {X} test (y ∷ xs) x h = by_test (passes test xs x) (test y) refl h
  where
    by_test : (find test xs ≡ Some x → test x ≡ true) → (b : Bool) → test y ≡ b → cond b (Some y) (find test xs) ≡ Some x → test x ≡ true
    by_test later true e g = let same : y ≡ x = cc in subst (λ (z : X). test z ≡ true) same e
    by_test later false e g = later g

abbrev word_in : List CWord → List ℕ → Option CWord
word_in ws text = find (λ (w : CWord). pointwise nat_eq text (word_bytes w)) ws

word_spelt : (ws : List CWord) (text : List ℕ) (w : CWord) → word_in ws text ≡ Some w → text ≡ word_bytes w
word_spelt ws text w h = same_text text (word_bytes w) (sym (passes (λ (v : CWord). pointwise nat_eq text (word_bytes v)) ws w h))

abbrev found : List ℕ → Option CWord
found text = word_in (words_from (first_byte text)) text

-- Each word, as it is written, is found and told.
record IsKnown (w : CWord) : Type 0 where
  found_is : found (word_bytes w) ≡ Some w
  told_is : word_of (word_bytes w) ≡ Some w

known : (w : CWord) → IsKnown w
known words.Typedef = record { found_is = refl; told_is = refl }
known words.Struct = record { found_is = refl; told_is = refl }
known words.Static = record { found_is = refl; told_is = refl }
known words.Inline = record { found_is = refl; told_is = refl }
known words.Const = record { found_is = refl; told_is = refl }
known words.Char = record { found_is = refl; told_is = refl }
known words.Void = record { found_is = refl; told_is = refl }
known words.Uint8 = record { found_is = refl; told_is = refl }
known words.Uint16 = record { found_is = refl; told_is = refl }
known words.Uint32 = record { found_is = refl; told_is = refl }
known words.Uint64 = record { found_is = refl; told_is = refl }
known words.SizeT = record { found_is = refl; told_is = refl }
known words.Bool = record { found_is = refl; told_is = refl }
known words.Goto = record { found_is = refl; told_is = refl }
known words.If = record { found_is = refl; told_is = refl }
known words.Else = record { found_is = refl; told_is = refl }
known words.While = record { found_is = refl; told_is = refl }
known words.Switch = record { found_is = refl; told_is = refl }
known words.Return = record { found_is = refl; told_is = refl }
known words.Case = record { found_is = refl; told_is = refl }
known words.Default = record { found_is = refl; told_is = refl }
known words.Sizeof = record { found_is = refl; told_is = refl }

abbrev all_words : List CWord
all_words = words.Typedef ∷ words.Struct ∷ words.Static ∷ words.Inline ∷ words.Const ∷ words.Char ∷ words.Void ∷ words.Uint8 ∷ words.Uint16 ∷ words.Uint32 ∷ words.Uint64 ∷ words.SizeT ∷ words.Bool ∷ words.Goto ∷ words.If ∷ words.Else ∷ words.While ∷ words.Switch ∷ words.Return ∷ words.Case ∷ words.Default ∷ words.Sizeof ∷ []

told : (text : List ℕ) → word_in all_words text ≡ word_of text
told text = refl

pub word_found : (text : List ℕ) → found text ≡ word_of text
word_found text = by_cases (found text) (word_of text) refl refl
  where
    by_cases : (o p : Option CWord) → found text ≡ o → word_of text ≡ p → o ≡ p
    by_cases (Some w) p e f = let s : text ≡ word_bytes w = word_spelt (words_from (first_byte text)) text w e in sym (known w).told_is ∙ ap word_of (sym s) ∙ f
    by_cases None (Some w) e f = let s : text ≡ word_bytes w = word_spelt all_words text w (told text ∙ f) in sym e ∙ ap found s ∙ (known w).found_is
    by_cases None None e f = refl

abbrev reserved_in : List Reserved → List ℕ → Option Reserved
reserved_in ws text = find (λ (w : Reserved). pointwise nat_eq text (reserved_bytes w)) ws

reserved_spelt : (ws : List Reserved) (text : List ℕ) (w : Reserved) → reserved_in ws text ≡ Some w → text ≡ reserved_bytes w
reserved_spelt ws text w h = same_text text (reserved_bytes w) (sym (passes (λ (v : Reserved). pointwise nat_eq text (reserved_bytes v)) ws w h))

abbrev found_reserved : List ℕ → Option Reserved
found_reserved text = reserved_in (reserved_from (first_byte text)) text

each_reserved : (w : Reserved) → is_reserved (reserved_bytes w) ≡ true
unfolding is_reserved
each_reserved reserved.Auto = refl
each_reserved reserved.Break = refl
each_reserved reserved.Case = refl
each_reserved reserved.Char = refl
each_reserved reserved.Const = refl
each_reserved reserved.Continue = refl
each_reserved reserved.Default = refl
each_reserved reserved.Do = refl
each_reserved reserved.Double = refl
each_reserved reserved.Else = refl
each_reserved reserved.Enum = refl
each_reserved reserved.Extern = refl
each_reserved reserved.Float = refl
each_reserved reserved.For = refl
each_reserved reserved.Goto = refl
each_reserved reserved.If = refl
each_reserved reserved.Inline = refl
each_reserved reserved.Int = refl
each_reserved reserved.Long = refl
each_reserved reserved.Register = refl
each_reserved reserved.Restrict = refl
each_reserved reserved.Return = refl
each_reserved reserved.Short = refl
each_reserved reserved.Signed = refl
each_reserved reserved.Sizeof = refl
each_reserved reserved.Static = refl
each_reserved reserved.Struct = refl
each_reserved reserved.Switch = refl
each_reserved reserved.Typedef = refl
each_reserved reserved.Union = refl
each_reserved reserved.Unsigned = refl
each_reserved reserved.Void = refl
each_reserved reserved.Volatile = refl
each_reserved reserved.While = refl
each_reserved reserved.Bool = refl
each_reserved reserved.Complex = refl
each_reserved reserved.Imaginary = refl
each_reserved reserved.Uint8 = refl
each_reserved reserved.Uint16 = refl
each_reserved reserved.Uint32 = refl
each_reserved reserved.Uint64 = refl
each_reserved reserved.SizeT = refl

-- Each of the texts that no name is spelt like is found.
all_found : list_all (λ other. is_some (found_reserved other)) reserved_words ≡ true
all_found = refl

record Both (a b : Bool) : Type 0 where
  left : a ≡ true
  right : b ≡ true

both : (a b : Bool) → (a && b) ≡ true → Both a b
both true true h = record { left = refl; right = refl }
both true false h = absurd cc
both false b h = absurd cc

one_of : (text : List ℕ) (others : List (List ℕ)) → list_any (λ other. pointwise nat_eq text other) others ≡ true → list_all (λ other. is_some (found_reserved other)) others ≡ true → is_some (found_reserved text) ≡ true
one_of text [] any all = absurd (cc any)
one_of text (word ∷ others) any all = by_test (one_of text others) (both (is_some (found_reserved word)) (list_all (λ other. is_some (found_reserved other)) others) all) (pointwise nat_eq text word) refl any
  where
    by_test : (list_any (λ other. pointwise nat_eq text other) others ≡ true → list_all (λ other. is_some (found_reserved other)) others ≡ true → is_some (found_reserved text) ≡ true) → Both (is_some (found_reserved word)) (list_all (λ other. is_some (found_reserved other)) others) → (b : Bool) → pointwise nat_eq text word ≡ b → (b || list_any (λ other. pointwise nat_eq text other) others) ≡ true → is_some (found_reserved text) ≡ true
    by_test later parts true e h = ap (λ t. is_some (found_reserved t)) (same_text text word (sym e)) ∙ parts.left
    by_test later parts false e h = later h parts.right

listed : (text : List ℕ) → list_any (λ other. pointwise nat_eq text other) reserved_words ≡ is_reserved text
unfolding is_reserved
listed text = refl

pub reserved_found : (text : List ℕ) → is_some (found_reserved text) ≡ is_reserved text
reserved_found text = by_cases (found_reserved text) (is_reserved text) refl refl
  where
    by_cases : (o : Option Reserved) (b : Bool) → found_reserved text ≡ o → is_reserved text ≡ b → is_some o ≡ b
    by_cases (Some w) b e f = let s : text ≡ reserved_bytes w = reserved_spelt (reserved_from (first_byte text)) text w e in sym (each_reserved w) ∙ ap is_reserved (sym s) ∙ f
    by_cases None true e f = let there : is_some (found_reserved text) ≡ true = one_of text reserved_words (listed text ∙ f) all_found in sym (ap is_some e) ∙ there
    by_cases None false e f = refl
