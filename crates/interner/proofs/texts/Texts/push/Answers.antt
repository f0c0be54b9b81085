use Rattle.std.proofs.Common.{◌≡◌, ◌+◌, ◌++◌, ◌∷◌, [], ℕ, List, length, map, ap, ◌∙◌}
use Rattle.std.specs.List.{between}
use Rattle.interner.specs.declared.texts.Span.{Span}
use Rattle.interner.proofs.TextLemmas.{texts_kept, texts_joined, even_on_err}
use Rattle.interner.proofs.texts.Texts.push.Goals as goal

-- Bytes that no span has change no text.
pub returns-in_err-push-clause-err : goal.returns-in_err-push-clause-err
returns-in_err-push-clause-err c =
    even_on_err c.from_residual-in_err-push.result
    (ap (λ (bytes : List ℕ). map (λ (span : Span). between span.start span.end bytes) c.push.new.self.items) c.in_ok-extend_from_slice.ensures.items
    ∙ ap (λ (spans : List Span). map (λ (span : Span). between span.start span.end (c.self.inside.bytes.items ++ c.args.text.now)) spans) c.in_err-push.ensures.items
    ∙ texts_kept (λ (span : Span). span.start) (λ (span : Span). span.end) c.self.inside.bytes.items c.args.text.now c.self.inside.spans.items c.self.invariant ∙ c.self.view_is)

pub returns-clause-ok : goal.returns-clause-ok
returns-clause-ok c =
    let start : c.len-start.result ≡ length c.self.inside.bytes.items = c.len-start.ensures ∙ c.self.inside.bytes.ok.0 in
    let end : c.len-end.result ≡ length c.self.inside.bytes.items + length c.args.text.now =
    c.len-end.ensures ∙ c.in_ok-extend_from_slice.ensures.len ∙ ap (λ (n : ℕ). n + length c.args.text.now) c.self.inside.bytes.ok.0 in
    ap (λ (bytes : List ℕ). map (λ (span : Span). between span.start span.end bytes) c.push.new.self.items) c.in_ok-extend_from_slice.ensures.items
    ∙ ap (λ (spans : List Span). map (λ (span : Span). between span.start span.end (c.self.inside.bytes.items ++ c.args.text.now)) spans) c.in_ok-push.ensures.items
    ∙ texts_joined (λ (span : Span). span.start) (λ (span : Span). span.end) c.self.inside.bytes.items c.args.text.now c.self.inside.spans.items (record { start = c.len-start.result; end = c.len-end.result }) c.self.invariant start end
    ∙ ap (λ (texts : List (List ℕ)). texts ++ c.args.text.now ∷ []) c.self.view_is
