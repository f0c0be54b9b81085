-- Reading on: what a loop over the tokens of a file keeps. For the crates that read lists of tokens.
use Rattle.std.proofs.Common.{◌≡◌, ℕ, ◌⊎◌, inl, inr, List, [], ◌∷◌, ◌++◌, refl, sym, ◌∙◌, ap, subst}
use Rattle.wf_text.specs.declared.place.Place.{Place}
use Rattle.wf_tokens.specs.Places.{behind_byte, behind_bytes}
use Rattle.wf_tokens.specs.Spelling.{State, Item, Reads, ReadsPiece, MakesSemicolon, ReadsAll}

-- One token more.
pub reads_more : (old : State) (items : List Item) (between : State) (item : Item) (new : State) → ReadsAll old items between → Reads between item new → ReadsAll old (items ++ (item ∷ [])) new
reads_more old [] between item new r s = (new, subst (λ (from : State). Reads from item new) (sym r) s, refl)
reads_more old (first ∷ items) between item new r s = (r.0, r.1, reads_more r.0 items between item new r.2 s)

pub behind_bytes-append : (at : Place) (front back : List ℕ) → behind_bytes at (front ++ back) ≡ behind_bytes (behind_bytes at front) back
behind_bytes-append at [] back = refl
behind_bytes-append at (byte ∷ front) back = behind_bytes-append (behind_byte at byte) front back

-- The place after the last byte stays the same.
pub same_end : (old : State) (item : Item) (new : State) → Reads old item new → behind_bytes new.at new.rest ≡ behind_bytes old.at old.rest
same_end old item new r = by_case r.1
  where
    by_case : ReadsPiece old item new ⊎ MakesSemicolon old item new → behind_bytes new.at new.rest ≡ behind_bytes old.at old.rest
    by_case (inl p) = ap (λ (s : State). behind_bytes s.at new.rest) p.after ∙ ap (λ (at : Place). behind_bytes (behind_bytes at item.text) new.rest) p.at ∙ sym (behind_bytes-append (behind_bytes old.at p.gap) item.text new.rest) ∙ sym (behind_bytes-append old.at p.gap (item.text ++ new.rest)) ∙ ap (behind_bytes old.at) (sym p.cut)
    by_case (inr p) = ap (λ (s : State). behind_bytes s.at new.rest) p.after ∙ sym (behind_bytes-append old.at p.gap new.rest) ∙ ap (behind_bytes old.at) (sym p.cut)

pub same_end-all : (old : State) (items : List Item) (new : State) → ReadsAll old items new → behind_bytes new.at new.rest ≡ behind_bytes old.at old.rest
same_end-all old [] new r = ap (λ (s : State). behind_bytes s.at s.rest) (sym r)
same_end-all old (item ∷ items) new r = same_end-all r.0 items new r.2 ∙ same_end old item r.0 r.1
