-- The bytes of a file have a list of tokens, or are refused at a place.
use Rattle.std.proofs.Common.{◌≡◌, ◌≢◌, ◌⊎◌, inl, inr, ℕ, ◌≤◌, ◌<◌, Bool, true, false, if◌then◌else◌, List, [], ◌∷◌, ◌++◌, length, take, drop, refl, sym, ◌∙◌, ap, subst, suc, zero, arith, length-append, length-drop, append-nil}
use Rattle.std.proofs.lemmas.List.{take-append-drop}
use Rattle.wf_text.specs.declared.rules.Refusal.{Refusal}
use Rattle.wf_tokens.specs.declared.kinds.TokenKind.TheVariants as kind
use Rattle.wf_tokens.specs.declared.symbols.Symbol.TheVariants as symbol
use Rattle.wf_tokens.specs.Gaps.{IsGap, ends_line}
use Rattle.wf_tokens.specs.Pieces.{rule_at}
use Rattle.wf_tokens.specs.Places.{behind_bytes}
use Rattle.wf_tokens.specs.Spelling.{State, Item, Reads, IsStuck, IsOver, ReadsAll, IsTokensOf, StopsAt, start, left, ends_statement}
use Rattle.wf_tokens.proofs.GapSizes.{gap_size, gap_size-is}
use Rattle.wf_parse_laws.proofs.Pieces.{HasPiece, HasNoPiece, piece-or-none}

-- One token is read, with which less is left; or none can be; or none is left.
record ReadsOne (old : State) : Type 0 where
  item : Item
  new : State
  reads : Reads old item new
  on : new.over ≡ false
  falls : left new < left old

-- A gap and what is after it.
record Cut (due : Bool) (bytes : List ℕ) : Type 0 where
  gap : List ℕ
  behind : List ℕ
  cut : bytes ≡ gap ++ behind
  blank : IsGap due gap behind

cut-gap : (due : Bool) (bytes : List ℕ) → Cut due bytes
cut-gap due bytes =
    let n = gap_size due false bytes in
    record { gap = take n bytes; behind = drop n bytes; cut = sym (take-append-drop n bytes); blank = gap_size-is due false bytes }

abbrev weight : Bool → ℕ
weight b = if b then 1 else 0

one-at-most : (b : Bool) → weight b ≤ 1
one-at-most true = omega arith
one-at-most false = omega arith

semicolon-made : (old : State) → old.over ≡ false → (c : Cut old.due old.rest) → old.due ≡ true → ends_line c.behind ≡ true → ReadsOne old
semicolon-made old on c due line =
    let count : length old.rest ≡ length (c.gap ++ c.behind) = ap length c.cut in
    let sum = length-append c.gap c.behind in
    let more : weight old.due ≡ weight true = ap weight due in
    record {
      item = record { kind = kind.Symbol symbol.Semicolon; text = []; at = old.at };
      new = record { rest = c.behind; at = behind_bytes old.at c.gap; due = false; over = false };
      reads = (on, inr (record { gap = c.gap; cut = c.cut; blank = c.blank; due = due; line = line; made = refl; after = refl }));
      on = refl;
      falls = omega (arith, count, sum, more);
    }

piece-read : (old : State) → old.over ≡ false → (c : Cut old.due old.rest) → HasPiece c.behind → ReadsOne old
piece-read old on c p =
    let text = take p.len c.behind in
    let rest = drop p.len c.behind in
    let at = behind_bytes old.at c.gap in
    let whole : text ++ rest ≡ c.behind = take-append-drop p.len c.behind in
    let G : List ℕ → Type 0 = IsGap old.due c.gap in
    let count : length old.rest ≡ length (c.gap ++ c.behind) = ap length c.cut in
    let sum = length-append c.gap c.behind in
    let fewer = length-drop p.len c.behind in
    let some = p.is.some in
    let within = p.is.within in
    let few = one-at-most (ends_statement p.kind) in
    record {
      item = record { kind = p.kind; text = text; at = at };
      new = record { rest = rest; at = behind_bytes at text; due = ends_statement p.kind; over = false };
      reads = (on, inl (record { gap = c.gap; cut = c.cut ∙ ap (λ b. c.gap ++ b) (sym whole); blank = subst G (sym whole) c.blank; piece = p.is.piece; at = refl; after = refl }));
      on = refl;
      falls = omega (arith, count, sum, fewer, some, within, few);
    }

stuck-there : (old : State) → old.over ≡ false → (c : Cut old.due old.rest) → c.behind ≢ [] → (old.due ≡ true → ends_line c.behind ≡ true → ⊥) → HasNoPiece c.behind → (refusal : Refusal) × IsStuck old refusal
stuck-there old on c more line p = (
  record { rule = rule_at c.behind; at = behind_bytes old.at c.gap },
  record { on = on; gap = c.gap; behind = c.behind; cut = c.cut; blank = c.blank; more = more; line = line; none = p.is.none; refused = refl },
)

abbrev Next : State → Type 0
Next old = ReadsOne old ⊎ (((refusal : Refusal) × IsStuck old refusal) ⊎ IsOver old)

over-there : (old : State) → old.over ≡ false → (c : Cut old.due old.rest) → c.behind ≡ [] → old.due ≡ false → IsOver old
over-there old on c none due =
    let all : old.rest ≡ c.gap ++ [] = c.cut ∙ ap (λ b. c.gap ++ b) none in
    let same : c.gap ++ [] ≡ c.gap = append-nil c.gap in
    let G : List ℕ → Type 0 = λ gap. IsGap old.due gap [] in
    let H : List ℕ → Type 0 = IsGap old.due c.gap in
    inr (on, due, subst G (sym (all ∙ same)) (subst H none c.blank))

next : (old : State) → old.over ≡ false → Next old
next old on = by_behind (cut-gap old.due old.rest)
  where
    not-both : (old.due ≡ false) → (line : List ℕ) → old.due ≡ true → ends_line line ≡ true → ⊥
    not-both e line h k = cc (e, h)

    by_piece : (c : Cut old.due old.rest) → c.behind ≢ [] → (old.due ≡ true → ends_line c.behind ≡ true → ⊥) → Next old
    by_piece c more line = elim (piece-or-none c.behind) [
      | inl p ↦ inl (piece-read old on c p)
      | inr p ↦ inr (inl (stuck-there old on c more line p))
    ]

    by_due : (c : Cut old.due old.rest) (bytes : List ℕ) → c.behind ≡ bytes → (due line : Bool) → old.due ≡ due → ends_line c.behind ≡ line → Next old
    by_due c bytes e true true d l = inl (semicolon-made old on c d l)
    by_due c [] e true false d l = absurd (let ended : ends_line c.behind ≡ true = ap ends_line e in cc (ended, l))
    by_due c (byte ∷ bytes) e true false d l = by_piece c (λ none. cc (none, e)) (λ h k. cc (k, l))
    by_due c [] e false line d l = inr (inr (over-there old on c e d))
    by_due c (byte ∷ bytes) e false line d l = by_piece c (λ none. cc (none, e)) (λ h k. cc (h, d))

    by_behind : (c : Cut old.due old.rest) → Next old
    by_behind c = by_due c c.behind refl old.due (ends_line c.behind) refl refl

-- Tokens from here on up to the end or a refusal.
record Ends (old : State) : Type 0 where
  items : List Item
  last : State
  reads : ReadsAll old items last
  end : ((refusal : Refusal) × IsStuck last refusal) ⊎ IsOver last

read-on : (n : ℕ) (old : State) → old.over ≡ false → left old < n → Ends old
read-on zero old on small = absurd (omega (arith, small))
read-on (suc n) old on small = by_next (λ new later less. read-on n new later less) (next old on)
  where
    by_next : ((new : State) → new.over ≡ false → left new < n → Ends new) → Next old → Ends old
    by_next others (inl r) =
        let falls = r.falls in
        let rest = others r.new r.on (omega (arith, falls, small)) in
        record { items = r.item ∷ rest.items; last = rest.last; reads = (r.new, r.reads, rest.reads); end = rest.end }
    by_next others (inr end) = record { items = []; last = old; reads = refl; end = end }

-- The whole file.
pub tokens-or-stop : (file : ℕ) (bytes : List ℕ) → ((items : List Item) × IsTokensOf file bytes items) ⊎ ((items : List Item) × (refusal : Refusal) × StopsAt file bytes items refusal)
tokens-or-stop file bytes = by_end (read-on (suc (left (start file bytes))) (start file bytes) refl (omega arith))
  where
    by_end : Ends (start file bytes) → ((items : List Item) × IsTokensOf file bytes items) ⊎ ((items : List Item) × (refusal : Refusal) × StopsAt file bytes items refusal)
    by_end e = elim e.end [
      | inl s ↦ inr (e.items, s.0, record { last = e.last; reads = e.reads; stuck = s.1 })
      | inr o ↦ inl (e.items, record { last = e.last; reads = e.reads; over = o })
    ]
