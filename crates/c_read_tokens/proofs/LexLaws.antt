-- The token before bytes.
use Rattle.std.proofs.Common.{◌≡◌, ◌<◌, ℕ, zero, suc, Bool, true, false, ◌&&◌, ◌||◌, not, nat_eq, if◌then◌else◌, Option, None, Some, List, [], ◌∷◌, ◌++◌, length, take, drop, take-append-drop, refl, sym, ◌∙◌, ap, subst, arith}
use Rattle.std.specs.List.{list_all}
use Rattle.std.specs.Option.{option_map}
use Rattle.std.proofs.lemmas.Bool.{eqb-true}
use Rattle.c_text.specs.CSpelling.{quoted, is_word_byte, is_string_byte, has_double_question}
use Rattle.c_read_grammar.specs.FirstToken.{Stands, begins, run_token, string_token, symbol_token}
use Rattle.c_read_grammar.proofs.Stands.{run-some, run-none, string-some, string-none, symbol-some, symbol-none}
use Rattle.c_read_tokens.specs.declared.kinds.Kind.{Kind}
use Rattle.c_read_tokens.specs.declared.symbols.Symbol.{Symbol}
use Rattle.c_read_tokens.specs.Kinds.{token_of}
use Rattle.c_read_tokens.specs.Lexing.{token_in, is_quote, double_from, NoToken, StandsSomehow}
use Rattle.c_read_tokens.specs.Symbols.{symbol_token_of}
use Rattle.c_read_tokens.specs.WordLists.{first_byte}

first_kept : (test : ℕ → Bool) (n : ℕ) (bytes : List ℕ) → begins test bytes ≡ true → begins test (drop n bytes) ≡ false → begins test (take n bytes) ≡ true
first_kept test n [] b w = absurd (cc b)
first_kept test zero (x ∷ bytes) b w = absurd (cc (b, w))
first_kept test (suc n) (x ∷ bytes) b w = b

module _ (bytes text rest : List ℕ) (n : ℕ) (b : begins is_word_byte bytes ≡ true) (run : list_all is_word_byte (take n bytes) ≡ true) (whole : begins is_word_byte (drop n bytes) ≡ false) (t : text ≡ take n bytes) (r : rest ≡ drop n bytes) where
  all_run : list_all is_word_byte text ≡ true
  all_run = ap (list_all is_word_byte) t ∙ run

  stops : begins is_word_byte rest ≡ false
  stops = ap (begins is_word_byte) r ∙ whole

  first : begins is_word_byte text ≡ true
  first = ap (begins is_word_byte) t ∙ first_kept is_word_byte n bytes b whole

  cut : text ++ rest ≡ bytes
  cut = ap (λ x. x ++ rest) t ∙ ap (λ x. take n bytes ++ x) r ∙ take-append-drop n bytes

  pub run_stands : (o : Option Kind) (kind : Kind) → token_in o text ≡ run_token text → o ≡ Some kind → Stands (token_of kind text) bytes rest
  run_stands o kind is some =
      let h : run_token text ≡ Some (token_of kind text) = sym is ∙ ap (λ x. token_in x text) some in
      subst (λ (x : List ℕ). Stands (token_of kind text) x rest) cut (run-some text rest (token_of kind text) first all_run stops h)

  pub run_absent : (o : Option Kind) → token_in o text ≡ run_token text → o ≡ None → NoToken bytes
  run_absent o is none =
      let h : run_token text ≡ None = sym is ∙ ap (λ x. token_in x text) none in
      λ u tail s. run-none text rest first all_run stops h u tail (subst (λ (x : List ℕ). Stands u x tail) (sym cut) s)

-- Symbols.
pub symbol_stands : (bytes : List ℕ) (b : ℕ) (bs : List ℕ) (o : Option Symbol) (s : Symbol) → bytes ≡ b ∷ bs → option_map symbol_token_of o ≡ symbol_token b bs → o ≡ Some s → StandsSomehow (symbol_token_of s) bytes
symbol_stands bytes b bs o s cut is some =
    let h : symbol_token b bs ≡ Some (symbol_token_of s) = sym is ∙ ap (option_map symbol_token_of) some in
    subst (λ (x : List ℕ). StandsSomehow (symbol_token_of s) x) (sym cut) (symbol-some b bs (symbol_token_of s) h)

pub symbol_absent : (bytes : List ℕ) (b : ℕ) (bs : List ℕ) (o : Option Symbol) → bytes ≡ b ∷ bs → begins is_word_byte bytes ≡ false → begins is_quote bytes ≡ false → option_map symbol_token_of o ≡ symbol_token b bs → o ≡ None → NoToken bytes
symbol_absent bytes b bs o cut w q is none =
    let h : symbol_token b bs ≡ None = sym is ∙ ap (option_map symbol_token_of) none in
    let w2 : is_word_byte b ≡ false = ap (begins is_word_byte) (sym cut) ∙ w in
    let q2 : is_quote b ≡ false = ap (begins is_quote) (sym cut) ∙ q in
    λ t tail s. symbol-none b bs w2 q2 h t tail (subst (λ (x : List ℕ). Stands t x tail) cut s)

-- Two question marks.
abbrev double : Bool → List ℕ → Bool
double p [] = false
double p (b ∷ bs) = (p && nat_eq b 63) || double (nat_eq b 63) bs

or_assoc : (a b c : Bool) → ((a || b) || c) ≡ (a || (b || c))
or_assoc true b c = refl
or_assoc false b c = refl

double_is : (f p : Bool) (bs : List ℕ) → double_from f p bs ≡ (f || double p bs)
double_is true p [] = refl
double_is false p [] = refl
double_is f p (b ∷ bs) = double_is (f || (p && nat_eq b 63)) (nat_eq b 63) bs ∙ or_assoc f (p && nat_eq b 63) (double (nat_eq b 63) bs)

double_next : (a : ℕ) (bs : List ℕ) → double (nat_eq a 63) bs ≡ has_double_question (a ∷ bs)
double_next a [] = refl
double_next a (b ∷ bs) = ap (λ x. (nat_eq a 63 && nat_eq b 63) || x) (double_next b bs)

pub double_seen : (bs : List ℕ) → double_from false false bs ≡ has_double_question bs
double_seen [] = refl
double_seen (b ∷ bs) = double_is false false (b ∷ bs) ∙ double_next b bs

-- Strings.
quote_first : (bytes : List ℕ) → begins is_quote bytes ≡ true → bytes ≡ 34 ∷ drop 1 bytes
quote_first [] h = absurd (cc h)
quote_first (b ∷ bs) h = let e : b ≡ 34 = eqb-true b 34 h in cc e

module _ (bytes inner text behind : List ℕ) (n : ℕ) (b : begins is_quote bytes ≡ true) (i : inner ≡ drop 1 bytes) (t : text ≡ take n inner) (r : behind ≡ drop n inner) (run : list_all is_string_byte (take n inner) ≡ true) where
  all_string : list_all is_string_byte text ≡ true
  all_string = ap (list_all is_string_byte) t ∙ run

  whole_inner : text ++ behind ≡ inner
  whole_inner = ap (λ x. x ++ behind) t ∙ ap (λ x. take n inner ++ x) r ∙ take-append-drop n inner

  string_cut : 34 ∷ (text ++ behind) ≡ bytes
  string_cut = ap (λ x. 34 ∷ x) (whole_inner ∙ i) ∙ sym (quote_first bytes b)

  pub string_stands : (rest : List ℕ) (q d : Bool) → q ≡ begins is_quote behind → q ≡ true → d ≡ double_from false false text → d ≡ false → rest ≡ drop 1 behind → Stands (quoted text) bytes rest
  string_stands rest q d is closed found single_only e =
      let c : behind ≡ 34 ∷ rest = quote_first behind (sym is ∙ closed) ∙ ap (λ x. 34 ∷ x) (sym e) in
      let single : has_double_question text ≡ false = sym (double_seen text) ∙ sym found ∙ single_only in
      let made : string_token text true ≡ Some (quoted text) = ap (λ x. if true && not x then Some (quoted text) else None) single in
      let there : 34 ∷ (text ++ 34 ∷ rest) ≡ bytes = ap (λ x. 34 ∷ (text ++ x)) (sym c) ∙ string_cut in
      subst (λ (x : List ℕ). Stands (quoted text) x rest) there (string-some text rest (quoted text) all_string made)

  absent : begins is_string_byte (drop n inner) ≡ false → string_token text (begins is_quote behind) ≡ None → NoToken bytes
  absent w none = λ u tail s. string-none text behind all_string (ap (begins is_string_byte) r ∙ w) none u tail (subst (λ (x : List ℕ). Stands u x tail) (sym string_cut) s)

  pub string_open : begins is_string_byte (drop n inner) ≡ false → (q : Bool) → q ≡ begins is_quote behind → q ≡ false → NoToken bytes
  string_open w q is open_still = absent w (ap (λ x. if x && not (has_double_question text) then Some (quoted text) else None) (sym is ∙ open_still))

  pub string_double : begins is_string_byte (drop n inner) ≡ false → (q d : Bool) → q ≡ begins is_quote behind → q ≡ true → d ≡ double_from false false text → d ≡ true → NoToken bytes
  string_double w q d is closed found two =
      let more : has_double_question text ≡ true = sym (double_seen text) ∙ sym found ∙ two in
      absent w (ap (λ x. if x && not (has_double_question text) then Some (quoted text) else None) (sym is ∙ closed) ∙ ap (λ x. if true && not x then Some (quoted text) else None) more)

pub first_is : (bytes : List ℕ) → 0 < length bytes → (b : ℕ) → b ≡ first_byte bytes → bytes ≡ b ∷ drop 1 bytes
first_is [] h b is = absurd (omega (arith, h))
first_is (x ∷ bs) h b is = ap (λ y. y ∷ bs) (sym is)

pub symbol_there : (bytes others : List ℕ) (b : ℕ) (o : Option Symbol) (s : Symbol) → bytes ≡ b ∷ drop 1 bytes → others ≡ drop 1 bytes → option_map symbol_token_of o ≡ symbol_token b others → o ≡ Some s → StandsSomehow (symbol_token_of s) bytes
symbol_there bytes others b o s cut rest is some = symbol_stands bytes b others o s (cut ∙ ap (λ x. b ∷ x) (sym rest)) is some

pub symbol_nowhere : (bytes others : List ℕ) (b : ℕ) (o : Option Symbol) → bytes ≡ b ∷ drop 1 bytes → others ≡ drop 1 bytes → begins is_word_byte bytes ≡ false → begins is_quote bytes ≡ false → option_map symbol_token_of o ≡ symbol_token b others → o ≡ None → NoToken bytes
symbol_nowhere bytes others b o cut rest w q is none = symbol_absent bytes b others o (cut ∙ ap (λ x. b ∷ x) (sym rest)) w q is none
