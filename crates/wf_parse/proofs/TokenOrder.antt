-- Each token of a file stands before those that follow it: a piece has bytes, and each byte moves the place on. A
-- semicolon that a line end adds stands directly after the token before it, and the line end goes on.
use Rattle.std.proofs.Common.{◌≡◌, ◌⊎◌, inl, inr, ℕ, ◌+◌, Bool, true, false, not, ◌&&◌, ◌||◌, nat_eq, if◌then◌else◌, Option, None, Some, List, [], ◌∷◌, ◌++◌, map, refl, sym, ◌∙◌, ap, subst, arith}
use Rattle.std.proofs.lemmas.Bool.Decides.{nat_tests}
use Rattle.std.specs.List.{AllByRecursion}
use Rattle.wf_text.specs.declared.place.Place.{Place}
use Rattle.wf_ast.proofs.Rising.{Before, before-all, Rises, StandAmong, rises-among, places-rise, rise-passes}
use Rattle.wf_parse_grammar.specs.declared.tokens.Token.{Token}
use Rattle.wf_tokens.specs.declared.kinds.TokenKind.{TokenKind}
use Rattle.wf_tokens.specs.declared.kinds.TokenKind.TheVariants as kind
use Rattle.wf_tokens.specs.Gaps.{is_blank, IsGap, ends_line}
use Rattle.wf_tokens.specs.Places.{behind_byte, behind_bytes}
use Rattle.wf_tokens.specs.Pieces.{IsPiece}
use Rattle.wf_tokens.specs.Runs.{begins, is_run, is_quote}
use Rattle.wf_tokens.specs.Spelling.{State, Item, Reads, ReadsPiece, MakesSemicolon, ReadsAll, start}
use Rattle.wf_tokens.proofs.PieceLemmas.{kind_runs, text_begins, symbol_first}
use Rattle.wf_tokens.proofs.SymbolTable.{is_symbol_byte}
use Rattle.wf_parse.specs.Lexing.{TokensAre, IsWholeFile}
use Rattle.wf_parse.specs.ReadForms.{TokensRise}

-- Bytes move the place on.
next-line : (file line col : ℕ) → Before (record { file = file; line = line; col = col }) (record { file = file; line = line + 1; col = 1 })
next-line file line col = grind (arith, nat_tests)

next-col : (file line col : ℕ) → Before (record { file = file; line = line; col = col }) (record { file = file; line = line; col = col + 1 })
next-col file line col = grind (arith, nat_tests)

byte-on : (at : Place) (byte : ℕ) → Before at (behind_byte at byte)
byte-on at byte = by_case (nat_eq byte 10)
  where
    by_case : (b : Bool) → Before at (if b then record { file = at.file; line = at.line + 1; col = 1 } else record { file = at.file; line = at.line; col = at.col + 1 })
    by_case true = next-line at.file at.line at.col
    by_case false = next-col at.file at.line at.col

bytes-on : (at : Place) (bytes : List ℕ) → (at ≡ behind_bytes at bytes) ⊎ Before at (behind_bytes at bytes)
bytes-on at [] = inl refl
bytes-on at (byte ∷ rest) = by_case (bytes-on (behind_byte at byte) rest)
  where
    by_case : (behind_byte at byte ≡ behind_bytes at (byte ∷ rest)) ⊎ Before (behind_byte at byte) (behind_bytes at (byte ∷ rest))
        → (at ≡ behind_bytes at (byte ∷ rest)) ⊎ Before at (behind_bytes at (byte ∷ rest))
    by_case (inl e) = let P : Place → Type 0 = Before at in inr (subst P e (byte-on at byte))
    by_case (inr b) = inr (before-all at (behind_byte at byte) (behind_bytes at (byte ∷ rest)) (byte-on at byte) b)

some-on : (at : Place) (bytes : List ℕ) → (bytes ≡ [] → ⊥) → Before at (behind_bytes at bytes)
some-on at [] some = absurd (some refl)
some-on at (byte ∷ rest) some = by_case (bytes-on (behind_byte at byte) rest)
  where
    by_case : (behind_byte at byte ≡ behind_bytes at (byte ∷ rest)) ⊎ Before (behind_byte at byte) (behind_bytes at (byte ∷ rest)) → Before at (behind_bytes at (byte ∷ rest))
    by_case (inl e) = let P : Place → Type 0 = Before at in subst P e (byte-on at byte)
    by_case (inr b) = before-all at (behind_byte at byte) (behind_bytes at (byte ∷ rest)) (byte-on at byte) b

-- What stands before a place stands before what is after bytes there.
still-before : (p at : Place) (bytes : List ℕ) → Before p at → Before p (behind_bytes at bytes)
still-before p at bytes h = by_case (bytes-on at bytes)
  where
    by_case : (at ≡ behind_bytes at bytes) ⊎ Before at (behind_bytes at bytes) → Before p (behind_bytes at bytes)
    by_case (inl e) = let P : Place → Type 0 = Before p in subst P e h
    by_case (inr b) = before-all p at (behind_bytes at bytes) h b

-- A piece has bytes.
begun : (test : ℕ → Bool) (text : List ℕ) → begins test text ≡ true → text ≡ [] → ⊥
begun test [] h e = absurd (cc h)
begun test (byte ∷ text) h e = absurd (cc e)

piece-some : (k : TokenKind) (text rest : List ℕ) → IsPiece k text rest → text ≡ [] → ⊥
piece-some kind.Name text rest p = begun is_run text (kind_runs kind.Name text p.spells).first
piece-some (kind.Number value) text rest p = begun is_run text (kind_runs (kind.Number value) text p.spells).first
piece-some kind.Text text rest p = begun is_quote text (text_begins text p)
piece-some (kind.Keyword word) text rest p = begun is_run text (kind_runs (kind.Keyword word) text p.spells).first
piece-some (kind.Symbol symbol) text rest p = begun is_symbol_byte text (symbol_first symbol text p.spells)

-- Before a line end at which no semicolon is due a gap goes on.
line-blank : (a b c d : Bool) → d ≡ true → (a || b || c || (d && not false)) ≡ true
line-blank true b c d h = refl
line-blank false true c d h = refl
line-blank false false true d h = refl
line-blank false false false true h = refl
line-blank false false false false h = absurd (cc h)

goes-on : (blank : Bool) (other : Option Bool) → blank ≡ true → (if blank then Some false else other) ≡ None → ⊥
goes-on true other h e = absurd (cc e)
goes-on false other h e = absurd (cc h)

gap-some : (gap text rest : List ℕ) → (text ≡ [] → ⊥) → ends_line (gap ++ (text ++ rest)) ≡ true → IsGap false gap (text ++ rest) → gap ≡ [] → ⊥
gap-some [] [] rest some line blank e = some refl
gap-some [] (byte ∷ text) rest some line blank e =
    goes-on (is_blank false byte) _ (line-blank (nat_eq byte 32) (nat_eq byte 9) (nat_eq byte 13) (nat_eq byte 10) line) blank
gap-some (byte ∷ gap) text rest some line blank e = absurd (cc e)

-- All that is read from here on stands after a place: reading stands after it, or stands there before a line end
-- at which no semicolon is due.
abbrev IsPast : Place → State → Type 0
IsPast p s = Before p s.at ⊎ ((p ≡ s.at) × (s.due ≡ false) × (ends_line s.rest ≡ true))

piece-past : (p : Place) (old : State) (item : Item) (new : State) → IsPast p old → ReadsPiece old item new → Before p item.at
piece-past p old item new past r = by_case past
  where
    some : item.text ≡ [] → ⊥
    some = piece-some item.kind item.text new.rest r.piece

    by_case : IsPast p old → Before p item.at
    by_case (inl b) = let P : Place → Type 0 = Before p in subst P (sym r.at) (still-before p old.at r.gap b)
    by_case (inr h) =
        let B : Bool → Type 0 = λ due. IsGap due r.gap (item.text ++ new.rest) in
        let L : List ℕ → Type 0 = λ bytes. ends_line bytes ≡ true in
        let P : Place → Type 0 = λ q. Before q item.at in
        let Q : Place → Type 0 = Before old.at in
        let gap = gap-some r.gap item.text new.rest some (subst L r.cut h.2) (subst B h.1 r.blank) in
        subst P (sym h.0) (subst Q (sym r.at) (some-on old.at r.gap gap))

-- Where reading stands after a piece.
behind-piece : (old : State) (item : Item) (new : State) → ReadsPiece old item new → Before item.at new.at
behind-piece old item new r =
    let P : Place → Type 0 = Before item.at in
    let there : new.at ≡ behind_bytes item.at item.text = ap (λ (s : State). s.at) r.after in
    subst P (sym there) (some-on item.at item.text (piece-some item.kind item.text new.rest r.piece))

reads-past : (p : Place) (old : State) (item : Item) (new : State) → IsPast p old → Reads old item new → Before p item.at × IsPast p new
reads-past p old item new past reads = by_case reads.1
  where
    P : Place → Type 0
    P = Before p

    by_past : MakesSemicolon old item new → IsPast p old → Before p item.at × IsPast p new
    by_past r (inl b) =
        let here : item.at ≡ old.at = ap (λ (i : Item). i.at) r.made in
        let there : new.at ≡ behind_bytes old.at r.gap = ap (λ (s : State). s.at) r.after in
        (subst P (sym here) b, inl (subst P (sym there) (still-before p old.at r.gap b)))
    by_past r (inr h) = absurd (cc (r.due, h.1))

    by_case : ReadsPiece old item new ⊎ MakesSemicolon old item new → Before p item.at × IsPast p new
    by_case (inl r) =
        let here = piece-past p old item new past r in
        (here, inl (before-all p item.at new.at here (behind-piece old item new r)))
    by_case (inr r) = by_past r past

-- What is read after a token stands after it.
token-past : (old : State) (item : Item) (new : State) → Reads old item new → IsPast item.at new
token-past old item new reads = by_case reads.1
  where
    by_gap : (r : MakesSemicolon old item new) → (old.at ≡ behind_bytes old.at r.gap) ⊎ Before old.at (behind_bytes old.at r.gap) → IsPast item.at new
    by_gap r (inl e) =
        let here : item.at ≡ old.at = ap (λ (i : Item). i.at) r.made in
        let there : new.at ≡ behind_bytes old.at r.gap = ap (λ (s : State). s.at) r.after in
        inr (here ∙ e ∙ sym there, ap (λ (s : State). s.due) r.after, r.line)
    by_gap r (inr b) =
        let P : Place → Type 0 = λ q. Before q new.at in
        let Q : Place → Type 0 = Before old.at in
        let here : item.at ≡ old.at = ap (λ (i : Item). i.at) r.made in
        let there : new.at ≡ behind_bytes old.at r.gap = ap (λ (s : State). s.at) r.after in
        inl (subst P (sym here) (subst Q (sym there) b))

    by_case : ReadsPiece old item new ⊎ MakesSemicolon old item new → IsPast item.at new
    by_case (inl r) = inl (behind-piece old item new r)
    by_case (inr r) = by_gap r (bytes-on old.at r.gap)

all-past : (p : Place) (old : State) (items : List Item) (last : State) → IsPast p old → ReadsAll old items last → AllByRecursion (λ item. Before p item.at) items
all-past p old [] last past r = tt
all-past p old (item ∷ items) last past r =
    let one = reads-past p old item r.0 past r.1 in
    (one.0, all-past p r.0 items last one.1 r.2)

items-rise : (old : State) (items : List Item) (last : State) → ReadsAll old items last → Rises (λ (item : Item). item.at) items
items-rise old [] last r = tt
items-rise old (item ∷ items) last r = (all-past item.at r.0 items last (token-past old item r.0 r.1) r.2, items-rise r.0 items last r.2)

pub tokens_rise : TokensRise
tokens_rise file bytes items tokens =
    let rises = items-rise (start file bytes) items tokens.last tokens.reads in
    rise-passes (map (λ (item : Item). item.at) items) (places-rise (λ (item : Item). item.at) items rises)

-- So do the tokens for the grammar.
among-items : (texts : List (List ℕ)) (items : List Item) (tokens : List Token) → TokensAre texts items tokens → StandAmong (λ (t : Token). t.at) (λ (item : Item). item.at) tokens items
among-items texts [] [] a = tt
among-items texts [] (t ∷ ts) a = absurd a
among-items texts (item ∷ items) [] a = absurd a
among-items texts (item ∷ items) (t ∷ ts) a = inl (a.0.at, among-items texts items ts a.1)

pub file-rises : (file : ℕ) (bytes : List ℕ) (known texts : List (List ℕ)) (tokens : List Token) → IsWholeFile file bytes known texts tokens → Rises (λ (t : Token). t.at) tokens
file-rises file bytes known texts tokens w =
    rises-among (λ (t : Token). t.at) (λ (item : Item). item.at) tokens w.items (among-items texts w.items tokens w.tokens_are)
    (items-rise (start file bytes) w.items w.spelt.last w.spelt.reads)
