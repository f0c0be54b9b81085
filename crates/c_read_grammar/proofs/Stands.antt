-- Which token stands at the front of bytes: the one that their first bytes tell, or none.
use Rattle.std.proofs.Common.{◌≡◌, ◌≤◌, arith, ◌∙◌, ap, sym, subst, ℕ, zero, suc, Bool, true, false, ◌&&◌, ◌||◌, not, nat_eq, nat_le, Option, Some, None, List, [], ◌∷◌, ◌++◌, IsTrue, refl, if◌then◌else◌, append_assoc}
use Rattle.std.specs.Bool.{⊤}
use Rattle.std.specs.List.{list_all}
use Rattle.std.specs.Option.{option_map}
use Rattle.std.proofs.lemmas.Bool.{eqb-true, leb-true}
use Rattle.c_text.specs.declared.kinds.CNumber.{CNumber}
use Rattle.c_text.specs.declared.kinds.COp.TheVariants as op
use Rattle.c_text.specs.declared.tokens.CWord.{CWord}
use Rattle.c_text.specs.declared.tokens.CMark.TheVariants as mark
use Rattle.c_text.specs.CSpelling.{CToken, keyword, named, literal, quoted, operator, marked, token_bytes, word_bytes, op_bytes, mark_bytes, literal_bytes, IsLiteral, is_between, begins_name, is_word_byte, is_word, is_reserved, is_gap_byte, is_string_byte, is_string, has_double_question, IsWhole, goes_on}
use Rattle.c_text.specs.CGrammar.{IsName}
use Rattle.c_read_grammar.specs.FirstToken.{is_digit, begins, front, word_of, word_token, has_leading_zero, literal_of, run_token, string_token, next_is, symbol_token, Stands}
use Rattle.c_read_grammar.specs.Texts.{IsToken}
use Rattle.c_read_grammar.proofs.FirstBytes.{byte_sort, BeginsAs, begins-append, begins-token, and-left, and-right, same-front}
use Rattle.c_read_grammar.proofs.OneSpelling.{SymbolIs, symbol-op, symbol-mark, words-all, word-all, name-word, literal-all, string-all, clear}
use Rattle.c_read_grammar.proofs.FirstToken.{literal-found, literal-is, word-found, word-is}

-- A token that is a run of bytes of words.
abbrev IsRun : CToken → Type 0
IsRun (keyword w) = ⊤
IsRun (named n) = ⊤
IsRun (literal n) = ⊤
IsRun _ = ⊥

run-whole : (t : CToken) → IsRun t → (rest : List ℕ) → begins is_word_byte rest ≡ false → IsWhole t rest
run-whole t r [] h = tt
run-whole (keyword w) r (b ∷ rest) h = h
run-whole (named n) r (b ∷ rest) h = h
run-whole (literal n) r (b ∷ rest) h = h
run-whole (quoted bytes) r (b ∷ rest) h = absurd r
run-whole (operator o) r (b ∷ rest) h = absurd r
run-whole (marked m) r (b ∷ rest) h = absurd r

record RunIs (t : CToken) (run : List ℕ) : Type 0 where
  lawful : IsToken t
  kind : IsRun t
  spelt : token_bytes t ≡ run

-- a number's run
number-run : (run : List ℕ) (t : CToken) (o : Option CNumber) → begins is_digit run ≡ true → literal_of run ≡ o → option_map literal o ≡ Some t → RunIs t run
number-run run t None d e h = absurd (cc h)
number-run run t (Some n) d e h =
    let l = literal-is run n d (has_leading_zero (front is_digit run)) refl e in
    let q : literal n ≡ t = cc h in
    subst (λ (x : CToken). RunIs x run) q (record { lawful = l.0; kind = tt; spelt = l.1 })

keyword-run : (run : List ℕ) (t : CToken) (o : Option CWord) → word_of run ≡ o → option_map keyword o ≡ Some t → RunIs t run
keyword-run run t None e h = absurd (cc h)
keyword-run run t (Some w) e h =
    let q : keyword w ≡ t = cc h in
    subst (λ (x : CToken). RunIs x run) q (record { lawful = tt; kind = tt; spelt = word-is run w e })

or-second : (a b : Bool) → (a || b) ≡ true → b ≡ false → a ≡ true
or-second true b h k = refl
or-second false b h k = absurd (cc (h, k))

and-true : (a b : Bool) → a ≡ true → b ≡ true → (a && b) ≡ true
and-true true b h k = k
and-true false b h k = absurd (cc h)

name-run : (run : List ℕ) → begins is_word_byte run ≡ true → list_all is_word_byte run ≡ true → begins is_digit run ≡ false → is_word run ≡ true
name-run [] h l d = absurd (cc h)
name-run (b ∷ bs) h l d = and-true (begins_name b) (list_all is_word_byte bs) (or-second (begins_name b) (is_digit b) h d) (and-right (is_word_byte b) (list_all is_word_byte bs) l)

word-run : (run : List ℕ) (t : CToken) → begins is_word_byte run ≡ true → list_all is_word_byte run ≡ true → begins is_digit run ≡ false → (c : Bool) → is_reserved run ≡ c
    → (if c then option_map keyword (word_of run) else Some (named run)) ≡ Some t → RunIs t run
word-run run t w l d true e h = keyword-run run t (word_of run) refl h
word-run run t w l d false e h =
    let q : named run ≡ t = cc h in
    let name : IsName run = and-true (is_word run) (not (is_reserved run)) (name-run run w l d) (ap not e) in
    subst (λ (x : CToken). RunIs x run) q (record { lawful = name; kind = tt; spelt = refl })

run-is : (run : List ℕ) (t : CToken) → begins is_word_byte run ≡ true → list_all is_word_byte run ≡ true → (c : Bool) → begins is_digit run ≡ c
    → (if c then option_map literal (literal_of run) else word_token run) ≡ Some t → RunIs t run
run-is run t w l true d h = number-run run t (literal_of run) d refl h
run-is run t w l false d h = word-run run t w l d (is_reserved run) refl h

-- A whole run of bytes of words, and the token that it tells.
pub run-some : (run rest : List ℕ) (t : CToken) → begins is_word_byte run ≡ true → list_all is_word_byte run ≡ true → begins is_word_byte rest ≡ false → run_token run ≡ Some t → Stands t (run ++ rest) rest
run-some run rest t w l r h =
    let x = run-is run t w l (begins is_digit run) refl h in
    record { lawful = x.lawful; cut = ap (λ y. y ++ rest) (sym x.spelt); whole = run-whole t x.kind rest r }

-- What a run tells of a token that it spells.
letter-digit : (b : ℕ) → begins_name b ≡ true → is_digit b ≡ true → ⊥
letter-digit b h d = by_range (is_between 97 122 b) (is_between 65 90 b) (nat_eq b 95) refl refl refl h
  where
    low : b ≤ 57
    low = leb-true b 57 (and-right (nat_le 48 b) (nat_le b 57) d)

    by_range : (x y z : Bool) → is_between 97 122 b ≡ x → is_between 65 90 b ≡ y → nat_eq b 95 ≡ z → (x || (y || z)) ≡ true → ⊥
    by_range true y z e f g h = let a : 97 ≤ b = leb-true 97 b (and-left (nat_le 97 b) (nat_le b 122) e) in absurd (omega (arith, a, low))
    by_range false true z e f g h = let a : 65 ≤ b = leb-true 65 b (and-left (nat_le 65 b) (nat_le b 90) f) in absurd (omega (arith, a, low))
    by_range false false true e f g h = let a : b ≡ 95 = eqb-true b 95 g in absurd (omega (arith, a, low))
    by_range false false false e f g h = absurd (cc h)

letter-no_digit : (b : ℕ) (c : Bool) → begins_name b ≡ true → is_digit b ≡ c → c ≡ false
letter-no_digit b true h d = absurd (letter-digit b h d)
letter-no_digit b false h d = refl

abbrev sort_of : (g n d q : Bool) → ℕ
sort_of g n d q = if g then 0 else (if n then 1 else (if d then 2 else (if q then 3 else 4)))

sort-by : (g n d q : Bool) → sort_of g n d q ≡ 2 → d ≡ true
sort-by true n d q h = absurd (cc h)
sort-by false true d q h = absurd (cc h)
sort-by false false true q h = refl
sort-by false false false true h = absurd (cc h)
sort-by false false false false h = absurd (cc h)

sort-two : (bytes : List ℕ) → BeginsAs 2 bytes → begins is_digit bytes ≡ true
sort-two [] h = absurd h
sort-two (b ∷ bytes) h = sort-by (is_gap_byte b) (begins_name b) (is_digit b) (nat_eq b 34) h

name-no_digit : (n : List ℕ) → is_word n ≡ true → begins is_digit n ≡ false
name-no_digit [] h = refl
name-no_digit (b ∷ bs) h = letter (and-left (begins_name b) (list_all is_word_byte bs) h)
  where
    letter : begins_name b ≡ true → is_digit b ≡ false
    letter h = letter-no_digit b (is_digit b) h refl

not-true : (b : Bool) → not b ≡ true → b ≡ false
not-true true h = absurd (cc h)
not-true false h = refl

name-found : (n : List ℕ) → IsName n → run_token n ≡ Some (named n)
name-found n l =
    ap (λ c. if c then option_map literal (literal_of n) else word_token n) (name-no_digit n (name-word n l))
    ∙ ap (λ c. if c then option_map keyword (word_of n) else Some (named n)) (not-true (is_reserved n) (and-right (is_word n) (not (is_reserved n)) l))

literal-digit : (n : CNumber) → IsLiteral n → begins is_digit (literal_bytes n) ≡ true
literal-digit n l = sort-two (literal_bytes n) (begins-token (literal n) l)

number-found : (n : CNumber) → IsLiteral n → run_token (literal_bytes n) ≡ Some (literal n)
number-found n l =
    ap (λ c. if c then option_map literal (literal_of (literal_bytes n)) else word_token (literal_bytes n)) (literal-digit n l)
    ∙ ap (option_map literal) (literal-found n l)

no-run : (t : CToken) (run rest tail : List ℕ) → token_bytes t ≡ run → run_token (token_bytes t) ≡ Some t → run_token run ≡ None → ⊥
no-run t run rest tail h f none = absurd (cc (sym f ∙ ap run_token h, none))

-- bytes of words are of the first sorts
word-sort : (k : ℕ) (g n d : Bool) (x : ℕ) → (n || d) ≡ true → (if g then 0 else (if n then 1 else (if d then 2 else x))) ≡ suc (suc (suc k)) → ⊥
word-sort k true n d x h e = absurd (cc e)
word-sort k false true d x h e = absurd (cc e)
word-sort k false false true x h e = absurd (cc e)
word-sort k false false false x h e = absurd (cc h)

word-begins : (k : ℕ) (run rest bytes : List ℕ) → begins is_word_byte run ≡ true → run ++ rest ≡ bytes → BeginsAs (suc (suc (suc k))) bytes → ⊥
word-begins k [] rest bytes w h s = absurd (cc w)
word-begins k (b ∷ run) rest [] w h s = s
word-begins k (b ∷ run) rest (c ∷ bytes) w h s =
    let same : b ≡ c = cc h in
    word-sort k (is_gap_byte b) (begins_name b) (is_digit b) (if nat_eq b 34 then 3 else 4) w (ap byte_sort same ∙ s)

same-text : (t : CToken) (run rest tail : List ℕ) → run ++ rest ≡ token_bytes t ++ tail → list_all is_word_byte run ≡ true → begins is_word_byte rest ≡ false → list_all is_word_byte (token_bytes t) ≡ true → begins is_word_byte tail ≡ false → token_bytes t ≡ run
same-text t run rest tail h l r k q = let s = same-front is_word_byte run rest (token_bytes t) tail h l k r q in sym s.front

-- A whole run that tells no token begins with none.
pub run-none : (run rest : List ℕ) → begins is_word_byte run ≡ true → list_all is_word_byte run ≡ true → begins is_word_byte rest ≡ false → run_token run ≡ None → (t : CToken) (tail : List ℕ) → Stands t (run ++ rest) tail → ⊥
run-none run rest w l r none (keyword v) tail s = no-run (keyword v) run rest tail (same-text (keyword v) run rest tail s.cut l r (words-all v) (clear (keyword v) tail (λ b. refl) s.whole)) (word-found v) none
run-none run rest w l r none (named n) tail s = no-run (named n) run rest tail (same-text (named n) run rest tail s.cut l r (word-all n (name-word n s.lawful)) (clear (named n) tail (λ b. refl) s.whole)) (name-found n s.lawful) none
run-none run rest w l r none (literal n) tail s = no-run (literal n) run rest tail (same-text (literal n) run rest tail s.cut l r (literal-all n s.lawful) (clear (literal n) tail (λ b. refl) s.whole)) (number-found n s.lawful) none
run-none run rest w l r none (quoted bytes) tail s = word-begins 0 run rest (token_bytes (quoted bytes) ++ tail) w s.cut (begins-append 3 (token_bytes (quoted bytes)) tail (begins-token (quoted bytes) s.lawful))
run-none run rest w l r none (operator o) tail s = word-begins 1 run rest (op_bytes o ++ tail) w s.cut (begins-append 4 (op_bytes o) tail (begins-token (operator o) tt))
run-none run rest w l r none (marked m) tail s = word-begins 1 run rest (mark_bytes m ++ tail) w s.cut (begins-append 4 (mark_bytes m) tail (begins-token (marked m) tt))

-- Strings.
abbrev pub is_quote : ℕ → Bool
is_quote b = nat_eq b 34

string-whole : (inner tail : List ℕ) → IsWhole (quoted inner) tail
string-whole inner [] = tt
string-whole inner (b ∷ tail) = refl

-- a quote is of no other sort
other-sort : (sort : ℕ) (xs ys : List ℕ) → xs ≡ ys → BeginsAs sort ys → BeginsAs 3 xs → nat_eq sort 3 ≡ false → ⊥
other-sort sort [] ys h s q n = q
other-sort sort (x ∷ xs) [] h s q n = s
other-sort sort (x ∷ xs) (y ∷ ys) h s q n =
    let same : x ≡ y = cc h in
    let e : sort ≡ 3 = sym s ∙ ap byte_sort (sym same) ∙ q in
    let k : nat_eq 3 3 ≡ false = subst (λ (z : ℕ). nat_eq z 3 ≡ false) e n in
    absurd (cc k)

same-string-none : (inner rest x tail : List ℕ) → list_all is_string_byte inner ≡ true → begins is_string_byte rest ≡ false → string_token inner (begins is_quote rest) ≡ None → IsTrue (is_string x) → inner ++ rest ≡ (x ++ 34 ∷ []) ++ tail → ⊥
same-string-none inner rest x tail l r none lx h =
    let c = same-front is_string_byte inner rest x (34 ∷ tail) (h ∙ append_assoc x (34 ∷ []) tail) l (string-all x lx) r refl in
    let closed : begins is_quote rest ≡ true = ap (begins is_quote) c.back in
    let single : not (has_double_question inner) ≡ true = ap (λ y. not (has_double_question y)) c.front ∙ and-right (list_all is_string_byte x) (not (has_double_question x)) lx in
    let some : string_token inner (begins is_quote rest) ≡ Some (quoted inner) =
    ap (λ y. if y && not (has_double_question inner) then Some (quoted inner) else None) closed
    ∙ ap (λ y. if true && y then Some (quoted inner) else None) single in
    absurd (cc (some, none))

-- A string that is closed.
pub string-some : (inner tail : List ℕ) (t : CToken) → list_all is_string_byte inner ≡ true → string_token inner true ≡ Some t → Stands t (34 ∷ (inner ++ 34 ∷ tail)) tail
string-some inner tail t l h = by_test (not (has_double_question inner)) refl h
  where
    by_test : (c : Bool) → not (has_double_question inner) ≡ c → (if true && c then Some (quoted inner) else None) ≡ Some t → Stands t (34 ∷ (inner ++ 34 ∷ tail)) tail
    by_test true e h =
        let q : quoted inner ≡ t = cc h in
        subst (λ (x : CToken). Stands x (34 ∷ (inner ++ 34 ∷ tail)) tail) q (record {
          lawful = and-true (list_all is_string_byte inner) (not (has_double_question inner)) l e;
          cut = ap (λ x. 34 ∷ x) (sym (append_assoc inner (34 ∷ []) tail));
          whole = string-whole inner tail;
        })
    by_test false e h = absurd (cc h)

-- A string that isn't closed, or with two `?` in a row: no token begins here.
pub string-none : (inner rest : List ℕ) → list_all is_string_byte inner ≡ true → begins is_string_byte rest ≡ false → string_token inner (begins is_quote rest) ≡ None → (t : CToken) (tail : List ℕ) → Stands t (34 ∷ (inner ++ rest)) tail → ⊥
string-none inner rest l r none (quoted x) tail s = same-string-none inner rest x tail l r none s.lawful (cc s.cut)
string-none inner rest l r none (keyword v) tail s = other-sort 1 (34 ∷ (inner ++ rest)) (word_bytes v ++ tail) s.cut (begins-append 1 (word_bytes v) tail (begins-token (keyword v) tt)) refl refl
string-none inner rest l r none (named n) tail s = other-sort 1 (34 ∷ (inner ++ rest)) (n ++ tail) s.cut (begins-append 1 n tail (begins-token (named n) s.lawful)) refl refl
string-none inner rest l r none (literal n) tail s = other-sort 2 (34 ∷ (inner ++ rest)) (literal_bytes n ++ tail) s.cut (begins-append 2 (literal_bytes n) tail (begins-token (literal n) s.lawful)) refl refl
string-none inner rest l r none (operator o) tail s = other-sort 4 (34 ∷ (inner ++ rest)) (op_bytes o ++ tail) s.cut (begins-append 4 (op_bytes o) tail (begins-token (operator o) tt)) refl refl
string-none inner rest l r none (marked m) tail s = other-sort 4 (34 ∷ (inner ++ rest)) (mark_bytes m ++ tail) s.cut (begins-append 4 (mark_bytes m) tail (begins-token (marked m) tt)) refl refl

-- Symbols.
never-on : (t : CToken) → ((c : ℕ) → goes_on t c ≡ false) → (bs : List ℕ) → IsWhole t bs
never-on t f [] = tt
never-on t f (c ∷ bs) = f c

pick-symbol : (b : ℕ) (bs : List ℕ) (t : CToken) (k : ℕ) (x : CToken) (other : Option CToken) → (b ≡ k → (tail : List ℕ) × Stands x (b ∷ bs) tail) → (other ≡ Some t → (tail : List ℕ) × Stands t (b ∷ bs) tail)
    → (if nat_eq b k then Some x else other) ≡ Some t → (tail : List ℕ) × Stands t (b ∷ bs) tail
pick-symbol b bs t k x other f g h = by_test (nat_eq b k) refl h
  where
    by_test : (c : Bool) → nat_eq b k ≡ c → (if c then Some x else other) ≡ Some t → (tail : List ℕ) × Stands t (b ∷ bs) tail
    by_test true e h =
        let q : x ≡ t = cc h in
        let w = f (eqb-true b k e) in
        (w.0, subst (λ (y : CToken). Stands y (b ∷ bs) w.0) q w.1)
    by_test false e h = g h

one-byte : (b : ℕ) (bs : List ℕ) (k : ℕ) (x : CToken) → IsToken x → token_bytes x ≡ k ∷ [] → ((c : ℕ) → goes_on x c ≡ false) → b ≡ k → (tail : List ℕ) × Stands x (b ∷ bs) tail
one-byte b bs k x l s f e = (bs, record { lawful = l; cut = ap (λ y. y ∷ bs) e ∙ ap (λ y. y ++ bs) (sym s); whole = never-on x f bs })

first-two : (b c k j : ℕ) (bs : List ℕ) → b ≡ k → c ≡ j → b ∷ c ∷ bs ≡ (k ∷ j ∷ []) ++ bs
first-two b c k j bs e h = cc (e, h)

-- the longer of two where the second byte follows
two-bytes : (b : ℕ) (bs : List ℕ) (k j : ℕ) (x y : CToken) → IsToken x → IsToken y → token_bytes x ≡ k ∷ j ∷ [] → token_bytes y ≡ k ∷ [] → ((c : ℕ) → goes_on x c ≡ false) → ((c : ℕ) → goes_on y c ≡ nat_eq c j) → b ≡ k
    → (tail : List ℕ) × Stands (if next_is j bs then x else y) (b ∷ bs) tail
two-bytes b [] k j x y lx ly sx sy fx fy e = ([], record { lawful = ly; cut = ap (λ z. z ∷ []) e ∙ ap (λ z. z ++ []) (sym sy); whole = tt })
two-bytes b (c ∷ bs) k j x y lx ly sx sy fx fy e = by_test (nat_eq c j) refl
  where
    by_test : (d : Bool) → nat_eq c j ≡ d → (tail : List ℕ) × Stands (if d then x else y) (b ∷ c ∷ bs) tail
    by_test true h = (bs, record { lawful = lx; cut = first-two b c k j bs e (eqb-true c j h) ∙ ap (λ z. z ++ bs) (sym sx); whole = never-on x fx bs })
    by_test false h = (c ∷ bs, record { lawful = ly; cut = ap (λ z. z ∷ c ∷ bs) e ∙ ap (λ z. z ++ c ∷ bs) (sym sy); whole = fy c ∙ h })

neither : (p q : Bool) → p ≡ false → q ≡ false → (p || q) ≡ false
neither true q h g = h
neither false q h g = g

-- the same with two longer ones
three-bytes : (b : ℕ) (bs : List ℕ) (k j i : ℕ) (x y z : CToken) → IsToken x → IsToken y → IsToken z → token_bytes x ≡ k ∷ j ∷ [] → token_bytes y ≡ k ∷ i ∷ [] → token_bytes z ≡ k ∷ []
    → ((c : ℕ) → goes_on x c ≡ false) → ((c : ℕ) → goes_on y c ≡ false) → ((c : ℕ) → goes_on z c ≡ (nat_eq c j || nat_eq c i)) → b ≡ k
    → (tail : List ℕ) × Stands (if next_is j bs then x else (if next_is i bs then y else z)) (b ∷ bs) tail
three-bytes b [] k j i x y z lx ly lz sx sy sz fx fy fz e = ([], record { lawful = lz; cut = ap (λ w. w ∷ []) e ∙ ap (λ w. w ++ []) (sym sz); whole = tt })
three-bytes b (c ∷ bs) k j i x y z lx ly lz sx sy sz fx fy fz e = by_test (nat_eq c j) (nat_eq c i) refl refl
  where
    by_test : (d f : Bool) → nat_eq c j ≡ d → nat_eq c i ≡ f → (tail : List ℕ) × Stands (if d then x else (if f then y else z)) (b ∷ c ∷ bs) tail
    by_test true f h g = (bs, record { lawful = lx; cut = first-two b c k j bs e (eqb-true c j h) ∙ ap (λ w. w ++ bs) (sym sx); whole = never-on x fx bs })
    by_test false true h g = (bs, record { lawful = ly; cut = first-two b c k i bs e (eqb-true c i g) ∙ ap (λ w. w ++ bs) (sym sy); whole = never-on y fy bs })
    by_test false false h g = (c ∷ bs, record { lawful = lz; cut = ap (λ w. w ∷ c ∷ bs) e ∙ ap (λ w. w ++ c ∷ bs) (sym sz); whole = fz c ∙ neither (nat_eq c j) (nat_eq c i) h g })

no-symbol : (b : ℕ) (bs ys : List ℕ) (t : CToken) → b ∷ bs ≡ ys → SymbolIs ys t → symbol_token b bs ≡ None → ⊥
no-symbol b bs [] t h s none = s
no-symbol b bs (y ∷ ys) t h s none =
    let first : b ≡ y = cc h in
    let more : bs ≡ ys = cc h in
    let some : symbol_token b bs ≡ Some t = ap (λ z. symbol_token z bs) first ∙ ap (symbol_token y) more ∙ s in
    absurd (cc (some, none))

-- a byte that begins neither a run nor a string is of no sort of those
abbrev Below : ℕ → Type 0
Below zero = ⊤
Below (suc zero) = ⊤
Below (suc (suc zero)) = ⊤
Below _ = ⊥

sort-none : (k : ℕ) (g n d q : Bool) → Below k → (n || d) ≡ false → q ≡ false → (if g then 0 else (if n then 1 else (if d then 2 else (if q then 3 else 4)))) ≡ suc k → ⊥
sort-none k true n d q l h e s = absurd (cc s)
sort-none k false true d q l h e s = absurd (cc h)
sort-none k false false true q l h e s = absurd (cc h)
sort-none k false false false true l h e s = absurd (cc e)
sort-none zero false false false false l h e s = absurd (cc s)
sort-none (suc zero) false false false false l h e s = absurd (cc s)
sort-none (suc (suc zero)) false false false false l h e s = absurd (cc s)
sort-none (suc (suc (suc k))) false false false false l h e s = l

no-sort : (b : ℕ) (bs : List ℕ) (k : ℕ) (ys : List ℕ) → is_word_byte b ≡ false → is_quote b ≡ false → b ∷ bs ≡ ys → BeginsAs (suc k) ys → Below k → ⊥
no-sort b bs k [] w q h s l = s
no-sort b bs k (y ∷ ys) w q h s l =
    let same : b ≡ y = cc h in
    sort-none k (is_gap_byte b) (begins_name b) (is_digit b) (nat_eq b 34) l w q (ap byte_sort same ∙ s)

pub symbol-some : (b : ℕ) (bs : List ℕ) (t : CToken) → symbol_token b bs ≡ Some t → (tail : List ℕ) × Stands t (b ∷ bs) tail
symbol-some b bs t h = pick-symbol b bs t 43 _ _ (λ e. one-byte b bs 43 (operator op.Add) tt refl (λ c. refl) e) (λ h. pick-symbol b bs t 45 _ _ (λ e. two-bytes b bs 45 62 (marked mark.Arrow) (operator op.Sub) tt tt refl refl (λ c. refl) (λ c. refl) e) (λ h. pick-symbol b bs t 42 _ _ (λ e. one-byte b bs 42 (operator op.Mul) tt refl (λ c. refl) e) (λ h. pick-symbol b bs t 47 _ _ (λ e. one-byte b bs 47 (operator op.Div) tt refl (λ c. refl) e) (λ h. pick-symbol b bs t 37 _ _ (λ e. one-byte b bs 37 (operator op.Rem) tt refl (λ c. refl) e) (λ h. pick-symbol b bs t 60 _ _ (λ e. three-bytes b bs 60 60 61 (operator op.Shl) (operator op.Le) (operator op.Lt) tt tt tt refl refl refl (λ c. refl) (λ c. refl) (λ c. refl) e) (λ h. pick-symbol b bs t 62 _ _ (λ e. three-bytes b bs 62 62 61 (operator op.Shr) (operator op.Ge) (operator op.Gt) tt tt tt refl refl refl (λ c. refl) (λ c. refl) (λ c. refl) e) (λ h. pick-symbol b bs t 38 _ _ (λ e. two-bytes b bs 38 38 (operator op.Both) (operator op.BitAnd) tt tt refl refl (λ c. refl) (λ c. refl) e) (λ h. pick-symbol b bs t 124 _ _ (λ e. two-bytes b bs 124 124 (operator op.Either) (operator op.BitOr) tt tt refl refl (λ c. refl) (λ c. refl) e) (λ h. pick-symbol b bs t 94 _ _ (λ e. one-byte b bs 94 (operator op.BitXor) tt refl (λ c. refl) e) (λ h. pick-symbol b bs t 61 _ _ (λ e. two-bytes b bs 61 61 (operator op.Eq) (marked mark.Assign) tt tt refl refl (λ c. refl) (λ c. refl) e) (λ h. pick-symbol b bs t 33 _ _ (λ e. two-bytes b bs 33 61 (operator op.Ne) (marked mark.Not) tt tt refl refl (λ c. refl) (λ c. refl) e) (λ h. pick-symbol b bs t 40 _ _ (λ e. one-byte b bs 40 (marked mark.OpenParen) tt refl (λ c. refl) e) (λ h. pick-symbol b bs t 41 _ _ (λ e. one-byte b bs 41 (marked mark.CloseParen) tt refl (λ c. refl) e) (λ h. pick-symbol b bs t 91 _ _ (λ e. one-byte b bs 91 (marked mark.OpenBracket) tt refl (λ c. refl) e) (λ h. pick-symbol b bs t 93 _ _ (λ e. one-byte b bs 93 (marked mark.CloseBracket) tt refl (λ c. refl) e) (λ h. pick-symbol b bs t 123 _ _ (λ e. one-byte b bs 123 (marked mark.OpenBrace) tt refl (λ c. refl) e) (λ h. pick-symbol b bs t 125 _ _ (λ e. one-byte b bs 125 (marked mark.CloseBrace) tt refl (λ c. refl) e) (λ h. pick-symbol b bs t 44 _ _ (λ e. one-byte b bs 44 (marked mark.Comma) tt refl (λ c. refl) e) (λ h. pick-symbol b bs t 59 _ _ (λ e. one-byte b bs 59 (marked mark.Semicolon) tt refl (λ c. refl) e) (λ h. pick-symbol b bs t 58 _ _ (λ e. one-byte b bs 58 (marked mark.Colon) tt refl (λ c. refl) e) (λ h. pick-symbol b bs t 63 _ _ (λ e. one-byte b bs 63 (marked mark.Question) tt refl (λ c. refl) e) (λ h. pick-symbol b bs t 126 _ _ (λ e. one-byte b bs 126 (marked mark.Complement) tt refl (λ c. refl) e) (λ h. absurd (cc h)) h) h) h) h) h) h) h) h) h) h) h) h) h) h) h) h) h) h) h) h) h) h) h

-- Where neither a run nor a string begins and no symbol stands, no token does.
pub symbol-none : (b : ℕ) (bs : List ℕ) → is_word_byte b ≡ false → is_quote b ≡ false → symbol_token b bs ≡ None → (t : CToken) (tail : List ℕ) → Stands t (b ∷ bs) tail → ⊥
symbol-none b bs w q none (keyword v) tail s = no-sort b bs 0 (word_bytes v ++ tail) w q s.cut (begins-append 1 (word_bytes v) tail (begins-token (keyword v) tt)) tt
symbol-none b bs w q none (named n) tail s = no-sort b bs 0 (n ++ tail) w q s.cut (begins-append 1 n tail (begins-token (named n) s.lawful)) tt
symbol-none b bs w q none (literal n) tail s = no-sort b bs 1 (literal_bytes n ++ tail) w q s.cut (begins-append 2 (literal_bytes n) tail (begins-token (literal n) s.lawful)) tt
symbol-none b bs w q none (quoted bytes) tail s = no-sort b bs 2 (token_bytes (quoted bytes) ++ tail) w q s.cut (begins-append 3 (token_bytes (quoted bytes)) tail (begins-token (quoted bytes) s.lawful)) tt
symbol-none b bs w q none (operator o) tail s = no-symbol b bs (op_bytes o ++ tail) (operator o) s.cut (symbol-op o tail s.whole) none
symbol-none b bs w q none (marked m) tail s = no-symbol b bs (mark_bytes m ++ tail) (marked m) s.cut (symbol-mark m tail s.whole) none
