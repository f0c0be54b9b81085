-- Bytes have at most one list of tokens, at most one refusal, and never both.
use Rattle.std.proofs.Common.{◌≡◌, ℕ, ◌⊎◌, inl, inr, false, List, [], ◌∷◌, ◌++◌, refl, sym, ◌∙◌, ap, subst, append-nil}
use Rattle.wf_text.specs.declared.place.Place.{Place}
use Rattle.wf_text.specs.declared.rules.Refusal.{Refusal}
use Rattle.wf_tokens.specs.declared.kinds.TokenKind.{TokenKind}
use Rattle.wf_tokens.specs.Gaps.{ends_line}
use Rattle.wf_tokens.specs.Pieces.{rule_at}
use Rattle.wf_tokens.specs.Places.{behind_bytes}
use Rattle.wf_tokens.specs.Spelling.{State, Item, start, Reads, ReadsPiece, MakesSemicolon, IsStuck, IsOver, ReadsAll, ends_statement, TokensAreUnique, RefusalsAreUnique, NeverBoth}
use Rattle.wf_tokens.proofs.GapSizes.{same_gap}
use Rattle.wf_tokens.proofs.PieceLemmas.{apart}
use Rattle.wf_tokens.proofs.PieceLaws.{same_piece, piece_no_line}

-- Two tokens read from one state, with the states after them, are one.
pub record SameStep (item : Item) (new : State) (other : Item) (next : State) : Type 0 where
  pub item_is : item ≡ other
  pub new_is : new ≡ next

pub same_item : (item other : Item) → item.kind ≡ other.kind → item.text ≡ other.text → item.at ≡ other.at → item ≡ other
same_item item other k t a =
    ap (λ (x : TokenKind). record { kind = x; text = item.text; at = item.at }) k ∙ ap (λ (x : List ℕ). record { kind = other.kind; text = x; at = item.at }) t ∙ ap (λ (x : Place). record { kind = other.kind; text = other.text; at = x }) a

-- The state after a piece.
abbrev pub behind_piece : Item → List ℕ → State
behind_piece item rest = record { rest = rest; at = behind_bytes item.at item.text; due = ends_statement item.kind; over = false }

pub same_pieces : (old : State) (item : Item) (new : State) (other : Item) (next : State) → ReadsPiece old item new → ReadsPiece old other next → SameStep item new other next
same_pieces old item new other next p q =
    let gaps = same_gap old.due p.gap (item.text ++ new.rest) q.gap (other.text ++ next.rest) (sym p.cut ∙ q.cut) p.blank q.blank in
    let pieces = same_piece item.kind other.kind item.text new.rest other.text next.rest gaps.back p.piece q.piece in
    let items : item ≡ other = same_item item other pieces.same_kind pieces.front (p.at ∙ ap (behind_bytes old.at) gaps.front ∙ sym q.at) in
    record { item_is = items; new_is = p.after ∙ ap (λ i. behind_piece i new.rest) items ∙ ap (behind_piece other) pieces.back ∙ sym q.after }

pub piece_or_semicolon : (old : State) (item : Item) (new : State) (other : Item) (next : State) → ReadsPiece old item new → MakesSemicolon old other next → ⊥
piece_or_semicolon old item new other next p q =
    let gaps = same_gap old.due p.gap (item.text ++ new.rest) q.gap next.rest (sym p.cut ∙ q.cut) p.blank q.blank in
    apart (ends_line next.rest) q.line (sym (ap ends_line gaps.back) ∙ piece_no_line item.kind item.text new.rest p.piece)

pub same_semicolons : (old : State) (item : Item) (new : State) (other : Item) (next : State) → MakesSemicolon old item new → MakesSemicolon old other next → SameStep item new other next
same_semicolons old item new other next p q =
    let gaps = same_gap old.due p.gap new.rest q.gap next.rest (sym p.cut ∙ q.cut) p.blank q.blank in
    record {
      item_is = p.made ∙ sym q.made;
      new_is = p.after ∙ ap (λ (rest : List ℕ). record { rest = rest; at = behind_bytes old.at p.gap; due = false; over = false }) gaps.back ∙ ap (λ (gap : List ℕ). record { rest = next.rest; at = behind_bytes old.at gap; due = false; over = false }) gaps.front ∙ sym q.after;
    }

pub same_step : (old : State) (item : Item) (new : State) (other : Item) (next : State) → Reads old item new → Reads old other next → SameStep item new other next
same_step old item new other next r s = by_case r.1 s.1
  where
    by_case : ReadsPiece old item new ⊎ MakesSemicolon old item new → ReadsPiece old other next ⊎ MakesSemicolon old other next → SameStep item new other next
    by_case (inl p) (inl q) = same_pieces old item new other next p q
    by_case (inl p) (inr q) = absurd (piece_or_semicolon old item new other next p q)
    by_case (inr p) (inl q) = absurd (piece_or_semicolon old other next item new q p)
    by_case (inr p) (inr q) = same_semicolons old item new other next p q

-- No token is read where none is left, or where none can be read.
pub over_or_reads : (old : State) (item : Item) (new : State) → IsOver old → Reads old item new → ⊥
over_or_reads old item new (inl over) r = apart old.over over r.0
over_or_reads old item new (inr e) r = by_case r.1
  where
    by_case : ReadsPiece old item new ⊎ MakesSemicolon old item new → ⊥
    by_case (inl p) =
        let gaps = same_gap old.due p.gap (item.text ++ new.rest) old.rest [] (sym p.cut ∙ sym (append-nil old.rest)) p.blank e.2 in
        apart (ends_line (item.text ++ new.rest)) (ap ends_line gaps.back) (piece_no_line item.kind item.text new.rest p.piece)
    by_case (inr p) = apart old.due p.due e.1

pub stuck_or_reads : (old : State) (item : Item) (new : State) (refusal : Refusal) → IsStuck old refusal → Reads old item new → ⊥
stuck_or_reads old item new refusal s r = by_case r.1
  where
    by_case : ReadsPiece old item new ⊎ MakesSemicolon old item new → ⊥
    by_case (inl p) =
        let gaps = same_gap old.due p.gap (item.text ++ new.rest) s.gap s.behind (sym p.cut ∙ s.cut) p.blank s.blank in
        s.none item.kind item.text new.rest (sym gaps.back) p.piece
    by_case (inr p) =
        let gaps = same_gap old.due p.gap new.rest s.gap s.behind (sym p.cut ∙ s.cut) p.blank s.blank in
        s.line p.due (sym (ap ends_line gaps.back) ∙ p.line)

pub over_or_stuck : (old : State) (refusal : Refusal) → IsOver old → IsStuck old refusal → ⊥
over_or_stuck old refusal (inl over) s = apart old.over over s.on
over_or_stuck old refusal (inr e) s = s.more (sym (same_gap old.due old.rest [] s.gap s.behind (append-nil old.rest ∙ s.cut) e.2 s.blank).back)

pub same_refusal : (old : State) (refusal other : Refusal) → IsStuck old refusal → IsStuck old other → refusal ≡ other
same_refusal old refusal other s t =
    let gaps = same_gap old.due s.gap s.behind t.gap t.behind (sym s.cut ∙ t.cut) s.blank t.blank in
    s.refused ∙ ap (λ (behind : List ℕ). record { rule = rule_at behind; at = behind_bytes old.at s.gap }) gaps.back ∙ ap (λ (gap : List ℕ). record { rule = rule_at t.behind; at = behind_bytes old.at gap }) gaps.front ∙ sym t.refused

-- Where reading can't go on.
abbrev pub IsLast : State → Type 0
IsLast s = IsOver s ⊎ ((refusal : Refusal) × IsStuck s refusal)

pub last_or_reads : (old : State) (item : Item) (new : State) → IsLast old → Reads old item new → ⊥
last_or_reads old item new (inl over) r = over_or_reads old item new over r
last_or_reads old item new (inr s) r = stuck_or_reads old item new s.0 s.1 r

pub record SameRun (items : List Item) (last : State) (others : List Item) (end : State) : Type 0 where
  pub items_are : items ≡ others
  pub last_is : last ≡ end

-- Tokens read from one state up to where reading can't go on are one list.
pub same_run : (old : State) (items others : List Item) (last end : State) → ReadsAll old items last → ReadsAll old others end → IsLast last → IsLast end → SameRun items last others end
same_run old [] [] last end r s l m = record { items_are = refl; last_is = sym r ∙ s }
same_run old [] (other ∷ others) last end r s l m = absurd (last_or_reads old other s.0 (subst IsLast (sym r) l) s.1)
same_run old (item ∷ items) [] last end r s l m = absurd (last_or_reads old item r.0 (subst IsLast (sym s) m) r.1)
same_run old (item ∷ items) (other ∷ others) last end r s l m =
    let step = same_step old item r.0 other s.0 r.1 s.1 in
    let P : State → Type 0 = λ between. ReadsAll between others end in
    let rest = same_run r.0 items others last end r.2 (subst P (sym step.new_is) s.2) l m in
    record { items_are = ap (λ i. i ∷ items) step.item_is ∙ ap (λ is. other ∷ is) rest.items_are; last_is = rest.last_is }

pub tokens_unique : TokensAreUnique
tokens_unique file bytes items others t u = (same_run (start file bytes) items others t.last u.last t.reads u.reads (inl t.over) (inl u.over)).items_are

pub refusals_unique : RefusalsAreUnique
refusals_unique file bytes items others refusal other t u =
    let run = same_run (start file bytes) items others t.last u.last t.reads u.reads (inr (refusal, t.stuck)) (inr (other, u.stuck)) in
    let P : State → Type 0 = λ s. IsStuck s other in
    (run.items_are, same_refusal t.last refusal other t.stuck (subst P (sym run.last_is) u.stuck))

pub never_both : NeverBoth
never_both file bytes items others refusal t u =
    let run = same_run (start file bytes) items others t.last u.last t.reads u.reads (inl t.over) (inr (refusal, u.stuck)) in
    let P : State → Type 0 = λ s. IsStuck s refusal in
    over_or_stuck t.last refusal t.over (subst P (sym run.last_is) u.stuck)
