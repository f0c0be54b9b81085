-- What can't go on is no text, however many brackets that text would open.
use Rattle.std.proofs.Common.{◌≡◌, ◌∙◌, sym, subst, ℕ, true, false, List, [], ◌∷◌, ◌++◌, refl, inl, inr, append-nil, append_assoc}
use Rattle.std.specs.List.{list_all}
use Rattle.std.proofs.lemmas.List.{append_cancel_left}
use Rattle.c_text.specs.CGrammar.{IsTextOf, unit_tokens}
use Rattle.c_text.specs.CSpelling.{CToken, token_bytes, is_gap_byte, IsGap, Spells, includes}
use Rattle.c_text.specs.CTree.{ItemTree}
use Rattle.c_read_grammar.specs.Outcomes.{SpellsTo, StandsAt, IsWrongHere, IsStuck, IsBadLine, IsBadHeader, HasOutcome, not_c, stddef_line, stdint_line, string_line}
use Rattle.c_read_grammar.specs.Texts.{IsLive, AreTokens}
use Rattle.c_read_grammar.proofs.FirstBytes.{same-front, token-no-gap, and-left, and-right}
use Rattle.c_read_grammar.proofs.OneSpelling.{one-token, gap-no_token}
use Rattle.c_read_grammar.proofs.TextTokens.{are-unit}

-- Of the tokens of bytes, those that were read are a front.
split : (front ts : List CToken) → AreTokens front → AreTokens ts → (body rest : List ℕ) → SpellsTo front body rest → Spells ts body → (more : List CToken) × (ts ≡ front ++ more) × AreTokens more × Spells more rest
split [] ts l m body rest s v = (ts, refl, m, subst (Spells ts) s v)
split (f ∷ front) [] l m body rest s v = absurd (gap-no_token f l.0 body s.0 v s.1)
split (f ∷ front) (t ∷ ts) l m body rest s v =
    let same = one-token t f m.0 l.0 body v.0 s.0 v.1 s.1 in
    let w = split front ts l.1 m.1 s.0 rest s.2 (subst (Spells ts) same.1 v.2) in
    (w.0, both (front ++ w.0) same.0 w.1, w.2, w.3)
  where
    both : (others : List CToken) → t ≡ f → ts ≡ others → t ∷ ts ≡ f ∷ others
    both others h k = cc (h, k)

gap-ends : (gap : List ℕ) (byte : ℕ) (behind : List ℕ) → is_gap_byte byte ≡ false → IsGap (gap ++ byte ∷ behind) → ⊥
gap-ends [] byte behind stops blank = let k : is_gap_byte byte ≡ true = and-left (is_gap_byte byte) (list_all is_gap_byte behind) blank in cc (k, stops)
gap-ends (b ∷ gap) byte behind stops blank = gap-ends gap byte behind stops (and-right (is_gap_byte b) (list_all is_gap_byte (gap ++ byte ∷ behind)) blank)

stuck-no-text : (bytes : List ℕ) (place : ℕ) (tree : List ItemTree) → IsStuck bytes place → IsTextOf bytes tree → ⊥
stuck-no-text bytes place tree s x =
    let body : s.read.body ≡ x.body = append_cancel_left includes s.read.body x.body (sym s.read.begins ∙ x.begins) in
    let w = split s.front (unit_tokens tree) s.read.lawful (are-unit tree x.lawful) s.read.body s.rest s.read.spelt (subst (Spells (unit_tokens tree)) (sym body) x.spelt) in
    by_more s.front s.rest s.behind s.here s.wrong w.0 w.1 w.2 w.3
  where
    by_more : (front : List CToken) (rest behind : List ℕ) → StandsAt bytes rest behind place → IsWrongHere front behind → (more : List CToken) → unit_tokens tree ≡ front ++ more → AreTokens more → Spells more rest → ⊥
    by_more front rest [] here wrong [] e l v = wrong (tree, x.lawful, sym (e ∙ append-nil front))
    by_more front rest [] here wrong (t ∷ more) e l v = gap-no_token t l.0 rest v.0 (subst IsGap (sym (here.cut ∙ append-nil here.gap)) here.blank) v.1
    by_more front rest (byte ∷ behind) here wrong [] e l v = gap-ends here.gap byte behind here.stops (subst IsGap here.cut v)
    by_more front rest (byte ∷ behind) here wrong (t ∷ more) e l v =
        let k = v.1 in
        let c = same-front is_gap_byte here.gap (byte ∷ behind) k.gap (token_bytes t ++ v.0) (sym here.cut ∙ k.cut) here.blank k.blank here.stops (token-no-gap t l.0 v.0) in
        let live : IsLive (front ++ t ∷ []) = (more, (tree, x.lawful, append_assoc front (t ∷ []) more ∙ sym e)) in
        (wrong t v.0 (record { lawful = l.0; cut = c.back; whole = k.whole })).0 live

-- A line that isn't there.
line-no-text : (done line bytes : List ℕ) (place : ℕ) → IsBadLine done line bytes place → (more : List ℕ) → bytes ≡ done ++ (line ++ more) → ⊥
line-no-text done line bytes place b more h = b.other more (append_cancel_left done b.rest (line ++ more) (sym b.begun ∙ h))

header-no-text : (bytes body : List ℕ) (place : ℕ) → IsBadHeader bytes place → bytes ≡ (stddef_line ++ stdint_line) ++ (string_line ++ body) → ⊥
header-no-text bytes body place (inl b) h = line-no-text [] stddef_line bytes place b (stdint_line ++ (string_line ++ body)) (h ∙ append_assoc stddef_line stdint_line (string_line ++ body))
header-no-text bytes body place (inr (inl b)) h = line-no-text stddef_line stdint_line bytes place b (string_line ++ body) (h ∙ append_assoc stddef_line stdint_line (string_line ++ body))
header-no-text bytes body place (inr (inr b)) h = line-no-text (stddef_line ++ stdint_line) string_line bytes place b body h

pub refused-no-text : (bytes : List ℕ) (place : ℕ) (tree : List ItemTree) → HasOutcome bytes (not_c place) → IsTextOf bytes tree → ⊥
refused-no-text bytes place tree (inl b) x = header-no-text bytes x.body place b (x.begins ∙ append_assoc (stddef_line ++ stdint_line) string_line x.body)
refused-no-text bytes place tree (inr s) x = stuck-no-text bytes place tree s x
