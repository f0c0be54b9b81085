-- A gap and the piece after it are one token read.
use Rattle.std.proofs.Common.{◌≡◌, ℕ, false, List, ◌++◌, take, drop, refl, sym, ◌∙◌, ap, subst, inl}
use Rattle.std.proofs.lemmas.List.{take-append-drop}
use Rattle.wf_text.specs.declared.place.Place.{Place}
use Rattle.wf_tokens.specs.declared.kinds.TokenKind.{TokenKind}
use Rattle.wf_tokens.specs.Gaps.{IsGap}
use Rattle.wf_tokens.specs.Pieces.{IsFrontPiece}
use Rattle.wf_tokens.specs.Places.{behind_bytes}
use Rattle.wf_tokens.specs.Spelling.{State, Item, Reads, TakesPiece}

pub reads_piece : (old : State) (n len : ℕ) (gap behind : List ℕ) (at : Place) (kind : TokenKind) (item : Item) (new : State) → old.over ≡ false → gap ≡ take n old.rest → behind ≡ drop n old.rest → IsGap old.due (take n old.rest) (drop n old.rest) → at ≡ behind_bytes old.at gap → IsFrontPiece kind len behind → TakesPiece behind at kind len item new → Reads old item new
reads_piece old n len gap behind at kind item new on front back blank place piece takes =
    let whole : take len behind ++ drop len behind ≡ drop n old.rest = take-append-drop len behind ∙ back in
    let B : List ℕ → Type 0 = λ rest. IsGap old.due (take n old.rest) rest in
    let I : Item → Type 0 = λ i. Reads old i new in
    let N : State → Type 0 = λ s. Reads old (record { kind = kind; text = take len behind; at = at }) s in
    subst I (sym takes.is) (subst N (sym takes.after) (
      on,
      inl record {
        gap = take n old.rest;
        cut = sym (take-append-drop n old.rest) ∙ ap (λ rest. take n old.rest ++ rest) (sym whole);
        blank = subst B (sym whole) blank;
        piece = piece.piece;
        at = place ∙ ap (behind_bytes old.at) front;
        after = refl;
      },
    ))
