use Rattle.std.proofs.Common.{sym, ◌∙◌, ap, [], ◌∷◌, List, ℕ, ◌≡◌, Bool, false, length, eqb, ◌+◌, take, drop, ◌<◌}
use Rattle.std.specs.List.{position_or_len}
use Rattle.wf_script_rules.specs.Text.{is_feed, lines_of, without_return}
use Rattle.wf_script_rules.proofs.Places.{place, no_place}
use Rattle.wf_script_rules.proofs.TextLaws.{empty_text, first_line, last_line}
use Rattle.wf_script_rules.proofs.text.Lines.next.Goals as goal

none_left : (old : List (List ℕ)) (rest : List ℕ) → lines_of rest ≡ old → rest ≡ [] → old ≡ []
unfolding lines_of
none_left old rest view empty = sym view ∙ ap lines_of empty

one_left : (old : List (List ℕ)) (rest : List ℕ) (b : Bool) → lines_of rest ≡ old → b ≡ eqb (length rest) 0 → b ≡ false → position_or_len is_feed rest ≡ length rest → old ≡ rest ∷ lines_of []
unfolding lines_of
one_left old [] b view is fails over = absurd cc
one_left old (byte ∷ rest) b view is fails over = sym view ∙ last_line rest byte over

line_taken : (old : List (List ℕ)) (rest line others cut : List ℕ) (k : ℕ) → lines_of rest ≡ old → position_or_len is_feed rest ≡ k → k < length rest → line ≡ take k rest → others ≡ drop (k + 1) rest → cut ≡ without_return line → old ≡ cut ∷ lines_of others
line_taken old rest line others cut k view found within first second plain = rw (plain, first, second) (sym view ∙ first_line rest k found within)

pub returns-then-is_empty : goal.returns-then-is_empty
returns-then-is_empty c = none_left c.args.self.now c.self.inside.rest.now c.self.view_is (empty_text _ _ c.is_empty.ensures c.if-is_empty.true)

pub returns-in-Some : goal.returns-in-Some
returns-in-Some c =
    let found = place is_feed c.self.inside.rest.now c.in-Some.k (sym c.in-Some.ensures) in
    line_taken c.args.self.now c.self.inside.rest.now c.split_at.result.0.now c.split_at-in-Some.result.1.now c.without_return.result.now c.in-Some.k c.self.view_is found.first found.within c.split_at.ensures.front c.split_at-in-Some.ensures.back c.without_return.ensures

pub returns-in-None : goal.returns-in-None
returns-in-None c = one_left c.args.self.now c.self.inside.rest.now c.is_empty.result c.self.view_is c.is_empty.ensures c.if-is_empty.false (no_place is_feed c.self.inside.rest.now (sym c.in-None.ensures))
