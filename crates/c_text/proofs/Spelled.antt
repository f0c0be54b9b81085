-- The printed text of a tree spells the tree's tokens.
use Rattle.std.proofs.Common.{◌≡◌, ℕ, ◌+◌, ◌^◌, ◌<◌, Bool, true, false, ◌&&◌, ◌||◌, not, nat_eq, nat_le, List, [], ◌∷◌, ◌++◌, IsTrue, refl, sym, ◌∙◌, ap, subst, arith, append_assoc, codes, decimal, inl, inr, ◌⊎◌}
use Rattle.std.specs.Prelude.{⊤}
use Rattle.std.specs.List.{list_all}
use Rattle.std.proofs.lemmas.Bool.{eqb-true, le-leb}
use Rattle.std.proofs.lemmas.Fmt.{decimal_by_steps}
use Rattle.c_text.specs.declared.kinds.CNumber.{CNumber}
use Rattle.c_text.specs.declared.kinds.CNumber.TheVariants.{Int, Unsigned, Long}
use Rattle.c_text.specs.declared.kinds.COp.{COp}
use Rattle.c_text.specs.declared.kinds.COp.TheVariants.{Add, Sub, Mul, Div, Rem, Shl, Shr, BitAnd, BitOr, BitXor, Lt, Le, Gt, Ge, Eq, Ne, Both, Either}
use Rattle.c_text.specs.declared.kinds.CUint.{CUint}
use Rattle.c_text.specs.declared.kinds.CUint.TheVariants.{U8, U16, U32, U64}
use Rattle.c_text.specs.declared.kinds.CUnary.{CUnary}
use Rattle.c_text.specs.declared.kinds.CUnary.TheVariants as unary_op
use Rattle.c_text.specs.declared.tokens.CWord.{CWord}
use Rattle.c_text.specs.declared.tokens.CWord.TheVariants as word
use Rattle.c_text.specs.declared.tokens.CMark.{CMark}
use Rattle.c_text.specs.declared.tokens.CMark.TheVariants as mark
use Rattle.c_text.specs.CTree.{TypeTree, uint, size, boolean, uint_pointer, struct_pointer, text, ExprTree, number, variable, member, element, pointed, operation, unary, cast, choice, called, Operands, no_operand, operand, Args, no_arg, expr_arg, sizeof_arg}
use Rattle.c_text.specs.CSpelling.{CToken, keyword, named, literal, operator, marked, token_bytes, op_bytes, word_bytes, literal_bytes, IsLiteral, IsGap, is_gap_byte, IsWhole, Spells, is_word_byte, begins_name, is_between, is_word, is_reserved, op_goes_on, mark_goes_on}
use Rattle.c_text.specs.CGrammar.{expr_tokens, operands_tokens, args_tokens, more_args_tokens, type_tokens, uint_token, unary_token, IsExpr, IsOperands, IsArgs, IsName}
use Rattle.c_text.specs.CLayout.{expr_text, operands_text, args_text, more_args_text, type_text, uint_bytes, unary_bytes}

-- no word goes on at the front of these bytes
abbrev pub IsClear : List ℕ → Type 0
IsClear [] = ⊤
IsClear (b ∷ bs) = is_word_byte b ≡ false

-- `Spells`, as a fact with its tokens and bytes.
pub record Spelt (ts : List CToken) (bytes : List ℕ) : Type 0 where
  pub is : Spells ts bytes

-- A token before bytes that leave it whole.
pub spell : (t : CToken) (ts : List CToken) (rest : List ℕ) → IsWhole t rest → Spelt ts rest → Spelt (t ∷ ts) (token_bytes t ++ rest)
spell t ts rest whole s = record { is = (rest, record { gap = []; blank = refl; cut = refl; whole = whole }, s.is) }

pub gap_append : (a b : List ℕ) → IsGap a → IsGap b → IsGap (a ++ b)
gap_append [] b p q = q
gap_append (x ∷ a) b p q =
    let split : (c : Bool) → is_gap_byte x ≡ c → (c && list_all is_gap_byte a) ≡ true → (c && list_all is_gap_byte (a ++ b)) ≡ true =
    elim [ true ↦ λ e h. gap_append a b h q | false ↦ λ e h. absurd (cc (h)) ] in
    split (is_gap_byte x) refl p

gap_in_front : (gap : List ℕ) (ts : List CToken) (bytes : List ℕ) → IsGap gap → Spells ts bytes → Spells ts (gap ++ bytes)
gap_in_front gap [] bytes blank s = gap_append gap bytes blank s
gap_in_front gap (t ∷ ts) bytes blank s = (s.0, record { gap = gap ++ s.1.gap; blank = gap_append gap s.1.gap blank s.1.blank; cut = ap (λ zs. gap ++ zs) s.1.cut ∙ sym (append_assoc gap s.1.gap (token_bytes t ++ s.0)); whole = s.1.whole }, s.2)

pub spell_gap : (gap : List ℕ) (ts : List CToken) (bytes : List ℕ) → IsGap gap → Spelt ts bytes → Spelt ts (gap ++ bytes)
spell_gap gap ts bytes blank s = record { is = gap_in_front gap ts bytes blank s.is }

-- words, names and literals are whole where the bytes are clear
whole_word : (w : CWord) (bytes : List ℕ) → IsClear bytes → IsWhole (keyword w) bytes
whole_word w [] c = tt
whole_word w (b ∷ bs) c = c

whole_name : (n : List ℕ) (bytes : List ℕ) → IsClear bytes → IsWhole (named n) bytes
whole_name n [] c = tt
whole_name n (b ∷ bs) c = c

whole_literal : (n : CNumber) (bytes : List ℕ) → IsClear bytes → IsWhole (literal n) bytes
whole_literal n [] c = tt
whole_literal n (b ∷ bs) c = c

-- a mark that begins no longer one is whole
pub whole_mark : (m : CMark) → ((b : ℕ) → mark_goes_on m b ≡ false) → (bytes : List ℕ) → IsWhole (marked m) bytes
whole_mark m h [] = tt
whole_mark m h (b ∷ bs) = h b

whole_op : (op : COp) → ((b : ℕ) → op_goes_on op b ≡ false) → (bytes : List ℕ) → IsWhole (operator op) bytes
whole_op op h [] = tt
whole_op op h (b ∷ bs) = h b

op_before_space : (op : COp) (bytes : List ℕ) → IsWhole (operator op) (32 ∷ bytes)
op_before_space Add bytes = refl
op_before_space Sub bytes = refl
op_before_space Mul bytes = refl
op_before_space Div bytes = refl
op_before_space Rem bytes = refl
op_before_space Shl bytes = refl
op_before_space Shr bytes = refl
op_before_space BitAnd bytes = refl
op_before_space BitOr bytes = refl
op_before_space BitXor bytes = refl
op_before_space Lt bytes = refl
op_before_space Le bytes = refl
op_before_space Gt bytes = refl
op_before_space Ge bytes = refl
op_before_space Eq bytes = refl
op_before_space Ne bytes = refl
op_before_space Both bytes = refl
op_before_space Either bytes = refl

-- An expression's text begins with a byte of a word or with `(`.
abbrev pub Begins : List ℕ → Type 0
Begins [] = ⊥
Begins (b ∷ bs) = (is_word_byte b ≡ true) ⊎ (b ≡ 40)

begins_append : (a b : List ℕ) → Begins a → Begins (a ++ b)
begins_append [] b h = absurd h
begins_append (x ∷ a) b h = h

or_true : (a b : Bool) → a ≡ true → (a || b) ≡ true
or_true true b h = refl
or_true false b h = absurd (cc (h))

begins_word : (w : List ℕ) → IsTrue (is_word w) → Begins w
begins_word [] h = absurd (cc (h))
begins_word (b ∷ bs) h =
    let split : (c : Bool) → begins_name b ≡ c → (c && list_all is_word_byte bs) ≡ true → begins_name b ≡ true = elim [ true ↦ λ e k. e | false ↦ λ e k. absurd (cc (k)) ] in
    inl (or_true (begins_name b) (is_between 48 57 b) (split (begins_name b) refl h))

begins_of_name : (n : List ℕ) → IsName n → Begins n
begins_of_name n h =
    let split : (c : Bool) → is_word n ≡ c → (c && not (is_reserved n)) ≡ true → is_word n ≡ true = elim [ true ↦ λ e k. e | false ↦ λ e k. absurd (cc (k)) ] in
    begins_word n (split (is_word n) refl h)

other_byte : (b c : ℕ) → is_word_byte c ≡ false → nat_eq 40 c ≡ false → (is_word_byte b ≡ true) ⊎ (b ≡ 40) → nat_eq b c ≡ false
other_byte b c word bracket h =
    let both : (v : Bool) → nat_eq b c ≡ v → nat_eq b c ≡ false = elim [
      | true ↦ λ e. (let same : b ≡ c = eqb-true b c e in absurd (elim h [ inl w ↦ (let t : is_word_byte c ≡ true = subst (λ (x : ℕ). is_word_byte x ≡ true) same w in cc (word, t)) | inr o ↦ (let t : nat_eq 40 c ≡ true = subst (λ (x : ℕ). nat_eq x c ≡ true) o e in cc (bracket, t)) ]))
      | false ↦ λ e. e
    ] in
    both (nat_eq b c) refl

not_before : (bytes : List ℕ) → Begins bytes → IsWhole (marked mark.Not) bytes
not_before [] h = tt
not_before (b ∷ bs) h = other_byte b 61 refl refl h

and_before : (bytes : List ℕ) → Begins bytes → IsWhole (operator BitAnd) bytes
and_before [] h = tt
and_before (b ∷ bs) h = other_byte b 38 refl refl h

or_true_right : (a b : Bool) → b ≡ true → (a || b) ≡ true
or_true_right true b h = refl
or_true_right false b h = h

digit_is_word : (n : ℕ) → n < 10 → is_word_byte (48 + n) ≡ true
digit_is_word n h =
    let low : nat_le 48 (48 + n) ≡ true = le-leb 48 (48 + n) (omega arith) in
    let high : nat_le (48 + n) 57 ≡ true = le-leb (48 + n) 57 (omega (arith, h)) in
    let both : (nat_le 48 (48 + n) && nat_le (48 + n) 57) ≡ true = rw (low, high) refl in
    or_true_right (begins_name (48 + n)) (is_between 48 57 (48 + n)) both

literal_digits : (n : ℕ) → n < 2 ^ 64 → Begins (decimal n)
literal_digits n fits = decimal_by_steps (λ (m : ℕ) (ds : List ℕ). Begins ds) (λ m h. inl (digit_is_word m h)) (λ m ds h b. begins_append ds _ b) n fits

literal_begins : (n : CNumber) → IsLiteral n → Begins (literal_bytes n)
literal_begins (Int n) h = literal_digits n (omega (arith, h))
literal_begins (Unsigned n) h = begins_append (decimal n) (codes "u") (literal_digits n (omega (arith, h)))
literal_begins (Long n) h = begins_append (decimal n) (codes "ull") (literal_digits n h)

pub expr_begins : (e : ExprTree) → IsExpr e → Begins (expr_text e)
expr_begins (number n) h = literal_begins n h
expr_begins (variable name) h = begins_of_name name h
expr_begins (member pointer field) h = begins_append (expr_text pointer ++ codes "->") field (begins_append (expr_text pointer) (codes "->") (expr_begins pointer h.1))
expr_begins (element pointer index) h = begins_append (expr_text pointer ++ codes "[" ++ expr_text index) (codes "]") (begins_append (expr_text pointer ++ codes "[") (expr_text index) (begins_append (expr_text pointer) (codes "[") (expr_begins pointer h.1)))
expr_begins (pointed pointer) h = inr refl
expr_begins (operation op first second others) h = inr refl
expr_begins (unary unary_op.Not of) h = inr refl
expr_begins (unary unary_op.Complement of) h = inr refl
expr_begins (unary unary_op.Address of) h = inr refl
expr_begins (cast to of) h = inr refl
expr_begins (choice test met unmet) h = inr refl
expr_begins (called function given) h = inr refl

-- Each token as it is printed.
pub mark_at : (m : CMark) → ((b : ℕ) → mark_goes_on m b ≡ false) → (ts : List CToken) (bytes : List ℕ) → Spelt ts bytes → Spelt (marked m ∷ ts) (token_bytes (marked m) ++ bytes)
mark_at m h ts bytes s = spell (marked m) ts bytes (whole_mark m h bytes) s

pub open_paren : (ts : List CToken) (bytes : List ℕ) → Spelt ts bytes → Spelt (marked mark.OpenParen ∷ ts) (40 ∷ bytes)
open_paren ts bytes s = mark_at mark.OpenParen (λ b. refl) ts bytes s

pub close_paren : (ts : List CToken) (bytes : List ℕ) → Spelt ts bytes → Spelt (marked mark.CloseParen ∷ ts) (41 ∷ bytes)
close_paren ts bytes s = mark_at mark.CloseParen (λ b. refl) ts bytes s

pub comma : (ts : List CToken) (bytes : List ℕ) → Spelt ts bytes → Spelt (marked mark.Comma ∷ ts) (44 ∷ 32 ∷ bytes)
comma ts bytes s = mark_at mark.Comma (λ b. refl) ts (32 ∷ bytes) (spell_gap (32 ∷ []) ts bytes refl s)

pub star : (ts : List CToken) (bytes : List ℕ) → Spelt ts bytes → Spelt (operator Mul ∷ ts) (42 ∷ bytes)
star ts bytes s = spell (operator Mul) ts bytes (whole_op Mul (λ b. refl) bytes) s

pub name_at : (n : List ℕ) (ts : List CToken) (bytes : List ℕ) → IsClear bytes → Spelt ts bytes → Spelt (named n ∷ ts) (n ++ bytes)
name_at n ts bytes clear s = spell (named n) ts bytes (whole_name n bytes clear) s

pub word_at : (w : CWord) (ts : List CToken) (bytes : List ℕ) → IsClear bytes → Spelt ts bytes → Spelt (keyword w ∷ ts) (word_bytes w ++ bytes)
word_at w ts bytes clear s = spell (keyword w) ts bytes (whole_word w bytes clear) s

pub literal_at : (n : CNumber) (ts : List CToken) (bytes : List ℕ) → IsClear bytes → Spelt ts bytes → Spelt (literal n ∷ ts) (literal_bytes n ++ bytes)
literal_at n ts bytes clear s = spell (literal n) ts bytes (whole_literal n bytes clear) s

-- an operator with a space on both sides
pub spaced : (op : COp) (ts : List CToken) (bytes : List ℕ) → Spelt ts bytes → Spelt (operator op ∷ ts) (32 ∷ (op_bytes op ++ 32 ∷ bytes))
spaced op ts bytes s = spell_gap (32 ∷ []) (operator op ∷ ts) (op_bytes op ++ 32 ∷ bytes) refl (spell (operator op) ts (32 ∷ bytes) (op_before_space op bytes) (spell_gap (32 ∷ []) ts bytes refl s))

-- a mark with a space on both sides
spaced_mark : (m : CMark) → ((b : ℕ) → mark_goes_on m b ≡ false) → (ts : List CToken) (bytes : List ℕ) → Spelt ts bytes → Spelt (marked m ∷ ts) (32 ∷ (token_bytes (marked m) ++ 32 ∷ bytes))
spaced_mark m h ts bytes s = spell_gap (32 ∷ []) (marked m ∷ ts) (token_bytes (marked m) ++ 32 ∷ bytes) refl (mark_at m h ts (32 ∷ bytes) (spell_gap (32 ∷ []) ts bytes refl s))

uint_at : (u : CUint) (ts : List CToken) (bytes : List ℕ) → IsClear bytes → Spelt ts bytes → Spelt (uint_token u ∷ ts) (uint_bytes u ++ bytes)
uint_at U8 ts bytes clear s = word_at word.Uint8 ts bytes clear s
uint_at U16 ts bytes clear s = word_at word.Uint16 ts bytes clear s
uint_at U32 ts bytes clear s = word_at word.Uint32 ts bytes clear s
uint_at U64 ts bytes clear s = word_at word.Uint64 ts bytes clear s

pub type_spells : (t : TypeTree) (ts : List CToken) (bytes : List ℕ) → IsClear bytes → Spelt ts bytes → Spelt (type_tokens t ts) (type_text t ++ bytes)
type_spells (uint u) ts bytes clear s = uint_at u ts bytes clear s
type_spells size ts bytes clear s = word_at word.SizeT ts bytes clear s
type_spells boolean ts bytes clear s = word_at word.Bool ts bytes clear s
type_spells (uint_pointer u) ts bytes clear s = rw append_assoc (uint_at u (operator Mul ∷ ts) (42 ∷ bytes) refl (star ts bytes s))
type_spells (struct_pointer name) ts bytes clear s = rw append_assoc (name_at name (operator Mul ∷ ts) (42 ∷ bytes) refl (star ts bytes s))
type_spells text ts bytes clear s = word_at word.Const (keyword word.Char ∷ operator Mul ∷ ts) (codes " char*" ++ bytes) refl (spell_gap (32 ∷ []) (keyword word.Char ∷ operator Mul ∷ ts) (codes "char*" ++ bytes) refl (word_at word.Char (operator Mul ∷ ts) (42 ∷ bytes) refl (star ts bytes s)))

pub by_bytes : (ts : List CToken) (a b : List ℕ) → a ≡ b → Spelt ts b → Spelt ts a
by_bytes ts a b e s = subst (λ (zs : List ℕ). Spelt ts zs) (sym e) s

unary_at : (op : CUnary) (ts : List CToken) (bytes : List ℕ) → Begins bytes → Spelt ts bytes → Spelt (marked mark.OpenParen ∷ unary_token op ∷ ts) (unary_bytes op ++ bytes)
unary_at unary_op.Not ts bytes h s = open_paren (marked mark.Not ∷ ts) (33 ∷ bytes) (spell (marked mark.Not) ts bytes (not_before bytes h) s)
unary_at unary_op.Complement ts bytes h s = open_paren (marked mark.Complement ∷ ts) (126 ∷ bytes) (mark_at mark.Complement (λ b. refl) ts bytes s)
unary_at unary_op.Address ts bytes h s = open_paren (operator BitAnd ∷ ts) (38 ∷ bytes) (spell (operator BitAnd) ts bytes (and_before bytes h) s)

sizeof_at : (name : List ℕ) (ts : List CToken) (bytes : List ℕ) → Spelt ts bytes → Spelt (keyword word.Sizeof ∷ marked mark.OpenParen ∷ operator Mul ∷ named name ∷ marked mark.CloseParen ∷ ts) (codes "sizeof" ++ 40 ∷ 42 ∷ (name ++ 41 ∷ bytes))
sizeof_at name ts bytes s = word_at word.Sizeof _ (40 ∷ 42 ∷ (name ++ 41 ∷ bytes)) refl (open_paren _ (42 ∷ (name ++ 41 ∷ bytes)) (star _ (name ++ 41 ∷ bytes) (name_at name _ (41 ∷ bytes) refl (close_paren ts bytes s))))

-- how the parts of a text are grouped
spaced_bytes : (op rest : List ℕ) → (codes " " ++ op ++ codes " ") ++ rest ≡ 32 ∷ (op ++ 32 ∷ rest)
spaced_bytes op rest = ap (λ zs. 32 ∷ zs) (append_assoc op (32 ∷ []) rest)

operation_bytes : (a s b o rest : List ℕ) → (codes "(" ++ a ++ s ++ b ++ o ++ codes ")") ++ rest ≡ 40 ∷ (a ++ (s ++ (b ++ (o ++ 41 ∷ rest))))
operation_bytes a s b o rest = simp append_assoc

operand_bytes : (s e o rest : List ℕ) → (s ++ e ++ o) ++ rest ≡ s ++ (e ++ (o ++ rest))
operand_bytes s e o rest = simp append_assoc

sizeof_bytes : (name rest : List ℕ) → (codes "sizeof(*" ++ name ++ codes ")") ++ rest ≡ codes "sizeof" ++ 40 ∷ 42 ∷ (name ++ 41 ∷ rest)
sizeof_bytes name rest = append_assoc (codes "sizeof(*" ++ name) (codes ")") rest ∙ append_assoc (codes "sizeof(*") name (41 ∷ rest)

clear_operands : (others : Operands) (op : COp) (bytes : List ℕ) → IsClear (operands_text others op ++ 41 ∷ bytes)
clear_operands no_operand op bytes = refl
clear_operands (operand e others) op bytes = refl

clear_args : (others : Args) (bytes : List ℕ) → IsClear (more_args_text others ++ 41 ∷ bytes)
clear_args no_arg bytes = refl
clear_args (expr_arg e others) bytes = refl
clear_args (sizeof_arg name others) bytes = refl

mutual
  pub expr_spells : (e : ExprTree) → IsExpr e → (ts : List CToken) (bytes : List ℕ) → IsClear bytes → Spelt ts bytes → Spelt (expr_tokens e ts) (expr_text e ++ bytes)
  expr_spells (number n) h ts bytes clear s = literal_at n ts bytes clear s
  expr_spells (variable name) h ts bytes clear s = name_at name ts bytes clear s
  expr_spells (member pointer field) h ts bytes clear s =
      by_bytes _ (expr_text (member pointer field) ++ bytes) (expr_text pointer ++ 45 ∷ 62 ∷ (field ++ bytes)) (simp append_assoc)
      (expr_spells pointer h.1 _ (45 ∷ 62 ∷ (field ++ bytes)) refl (mark_at mark.Arrow (λ b. refl) _ (field ++ bytes) (name_at field ts bytes clear s)))
  expr_spells (element pointer index) h ts bytes clear s =
      by_bytes _ (expr_text (element pointer index) ++ bytes) (expr_text pointer ++ 91 ∷ (expr_text index ++ 93 ∷ bytes)) (simp append_assoc)
      (expr_spells pointer h.1 _ (91 ∷ (expr_text index ++ 93 ∷ bytes)) refl (mark_at mark.OpenBracket (λ b. refl) _ (expr_text index ++ 93 ∷ bytes) (expr_spells index h.2 _ (93 ∷ bytes) refl (mark_at mark.CloseBracket (λ b. refl) ts bytes s))))
  expr_spells (pointed pointer) h ts bytes clear s =
      by_bytes _ (expr_text (pointed pointer) ++ bytes) (40 ∷ 42 ∷ (expr_text pointer ++ 41 ∷ bytes)) (simp append_assoc)
      (open_paren _ (42 ∷ (expr_text pointer ++ 41 ∷ bytes)) (star _ (expr_text pointer ++ 41 ∷ bytes) (expr_spells pointer h.1 _ (41 ∷ bytes) refl (close_paren ts bytes s))))
  expr_spells (operation op first second others) h ts bytes clear s =
      by_bytes _ (expr_text (operation op first second others) ++ bytes) (40 ∷ (expr_text first ++ 32 ∷ (op_bytes op ++ 32 ∷ (expr_text second ++ (operands_text others op ++ 41 ∷ bytes))))) (operation_bytes (expr_text first) (codes " " ++ op_bytes op ++ codes " ") (expr_text second) (operands_text others op) bytes ∙ ap (λ zs. 40 ∷ (expr_text first ++ zs)) (spaced_bytes (op_bytes op) (expr_text second ++ (operands_text others op ++ 41 ∷ bytes))))
      (open_paren _ (expr_text first ++ 32 ∷ (op_bytes op ++ 32 ∷ (expr_text second ++ (operands_text others op ++ 41 ∷ bytes))))
      (expr_spells first h.0 _ (32 ∷ (op_bytes op ++ 32 ∷ (expr_text second ++ (operands_text others op ++ 41 ∷ bytes)))) refl
      (spaced op _ (expr_text second ++ (operands_text others op ++ 41 ∷ bytes))
      (expr_spells second h.1 _ (operands_text others op ++ 41 ∷ bytes) (clear_operands others op bytes)
      (operands_spell others op h.2 _ bytes (close_paren ts bytes s))))))
  expr_spells (unary op of) h ts bytes clear s =
      by_bytes _ (expr_text (unary op of) ++ bytes) (unary_bytes op ++ (expr_text of ++ 41 ∷ bytes)) (simp append_assoc)
      (unary_at op _ (expr_text of ++ 41 ∷ bytes) (begins_append (expr_text of) (41 ∷ bytes) (expr_begins of h)) (expr_spells of h _ (41 ∷ bytes) refl (close_paren ts bytes s)))
  expr_spells (cast to of) h ts bytes clear s =
      by_bytes _ (expr_text (cast to of) ++ bytes) (40 ∷ 40 ∷ (type_text to ++ 41 ∷ (expr_text of ++ 41 ∷ bytes))) (simp append_assoc)
      (open_paren _ (40 ∷ (type_text to ++ 41 ∷ (expr_text of ++ 41 ∷ bytes))) (open_paren _ (type_text to ++ 41 ∷ (expr_text of ++ 41 ∷ bytes))
      (type_spells to _ (41 ∷ (expr_text of ++ 41 ∷ bytes)) refl (close_paren _ (expr_text of ++ 41 ∷ bytes) (expr_spells of h.1 _ (41 ∷ bytes) refl (close_paren ts bytes s))))))
  expr_spells (choice test met unmet) h ts bytes clear s =
      by_bytes _ (expr_text (choice test met unmet) ++ bytes) (40 ∷ (expr_text test ++ 32 ∷ 63 ∷ 32 ∷ (expr_text met ++ 32 ∷ 58 ∷ 32 ∷ (expr_text unmet ++ 41 ∷ bytes)))) (simp append_assoc)
      (open_paren _ (expr_text test ++ 32 ∷ 63 ∷ 32 ∷ (expr_text met ++ 32 ∷ 58 ∷ 32 ∷ (expr_text unmet ++ 41 ∷ bytes)))
      (expr_spells test h.0 _ (32 ∷ 63 ∷ 32 ∷ (expr_text met ++ 32 ∷ 58 ∷ 32 ∷ (expr_text unmet ++ 41 ∷ bytes))) refl
      (spaced_mark mark.Question (λ b. refl) _ (expr_text met ++ 32 ∷ 58 ∷ 32 ∷ (expr_text unmet ++ 41 ∷ bytes))
      (expr_spells met h.1 _ (32 ∷ 58 ∷ 32 ∷ (expr_text unmet ++ 41 ∷ bytes)) refl
      (spaced_mark mark.Colon (λ b. refl) _ (expr_text unmet ++ 41 ∷ bytes)
      (expr_spells unmet h.2 _ (41 ∷ bytes) refl (close_paren ts bytes s)))))))
  expr_spells (called function given) h ts bytes clear s =
      by_bytes _ (expr_text (called function given) ++ bytes) (40 ∷ (function ++ 40 ∷ (args_text given ++ 41 ∷ 41 ∷ bytes))) (simp append_assoc)
      (open_paren _ (function ++ 40 ∷ (args_text given ++ 41 ∷ 41 ∷ bytes)) (name_at function _ (40 ∷ (args_text given ++ 41 ∷ 41 ∷ bytes)) refl
      (open_paren _ (args_text given ++ 41 ∷ 41 ∷ bytes) (args_spell given h.1 _ (41 ∷ bytes) (close_paren _ (41 ∷ bytes) (close_paren ts bytes s))))))

  operands_spell : (others : Operands) (op : COp) → IsOperands others → (ts : List CToken) (bytes : List ℕ) → Spelt ts (41 ∷ bytes) → Spelt (operands_tokens others op ts) (operands_text others op ++ 41 ∷ bytes)
  operands_spell no_operand op h ts bytes s = s
  operands_spell (operand e others) op h ts bytes s =
      by_bytes _ (operands_text (operand e others) op ++ 41 ∷ bytes) (32 ∷ (op_bytes op ++ 32 ∷ (expr_text e ++ (operands_text others op ++ 41 ∷ bytes)))) (operand_bytes (codes " " ++ op_bytes op ++ codes " ") (expr_text e) (operands_text others op) (41 ∷ bytes) ∙ spaced_bytes (op_bytes op) (expr_text e ++ (operands_text others op ++ 41 ∷ bytes)))
      (spaced op _ (expr_text e ++ (operands_text others op ++ 41 ∷ bytes)) (expr_spells e h.0 _ (operands_text others op ++ 41 ∷ bytes) (clear_operands others op bytes) (operands_spell others op h.1 ts bytes s)))

  pub args_spell : (given : Args) → IsArgs given → (ts : List CToken) (bytes : List ℕ) → Spelt ts (41 ∷ bytes) → Spelt (args_tokens given ts) (args_text given ++ 41 ∷ bytes)
  args_spell no_arg h ts bytes s = s
  args_spell (expr_arg e others) h ts bytes s =
      by_bytes _ (args_text (expr_arg e others) ++ 41 ∷ bytes) (expr_text e ++ (more_args_text others ++ 41 ∷ bytes)) (simp append_assoc)
      (expr_spells e h.0 _ (more_args_text others ++ 41 ∷ bytes) (clear_args others bytes) (more_args_spell others h.1 ts bytes s))
  args_spell (sizeof_arg name others) h ts bytes s =
      by_bytes _ (args_text (sizeof_arg name others) ++ 41 ∷ bytes) (codes "sizeof" ++ 40 ∷ 42 ∷ (name ++ 41 ∷ (more_args_text others ++ 41 ∷ bytes))) (append_assoc (codes "sizeof(*" ++ name ++ codes ")") (more_args_text others) (41 ∷ bytes) ∙ sizeof_bytes name (more_args_text others ++ 41 ∷ bytes))
      (sizeof_at name _ (more_args_text others ++ 41 ∷ bytes) (more_args_spell others h.1 ts bytes s))

  more_args_spell : (given : Args) → IsArgs given → (ts : List CToken) (bytes : List ℕ) → Spelt ts (41 ∷ bytes) → Spelt (more_args_tokens given ts) (more_args_text given ++ 41 ∷ bytes)
  more_args_spell no_arg h ts bytes s = s
  more_args_spell (expr_arg e others) h ts bytes s =
      by_bytes _ (more_args_text (expr_arg e others) ++ 41 ∷ bytes) (44 ∷ 32 ∷ (expr_text e ++ (more_args_text others ++ 41 ∷ bytes))) (simp append_assoc)
      (comma _ (expr_text e ++ (more_args_text others ++ 41 ∷ bytes)) (expr_spells e h.0 _ (more_args_text others ++ 41 ∷ bytes) (clear_args others bytes) (more_args_spell others h.1 ts bytes s)))
  more_args_spell (sizeof_arg name others) h ts bytes s =
      by_bytes _ (more_args_text (sizeof_arg name others) ++ 41 ∷ bytes) (44 ∷ 32 ∷ (codes "sizeof" ++ 40 ∷ 42 ∷ (name ++ 41 ∷ (more_args_text others ++ 41 ∷ bytes)))) (ap (λ zs. 44 ∷ 32 ∷ zs) (append_assoc (codes "sizeof(*" ++ name ++ codes ")") (more_args_text others) (41 ∷ bytes) ∙ sizeof_bytes name (more_args_text others ++ 41 ∷ bytes)))
      (comma _ (codes "sizeof" ++ 40 ∷ 42 ∷ (name ++ 41 ∷ (more_args_text others ++ 41 ∷ bytes))) (sizeof_at name _ (more_args_text others ++ 41 ∷ bytes) (more_args_spell others h.1 ts bytes s)))
