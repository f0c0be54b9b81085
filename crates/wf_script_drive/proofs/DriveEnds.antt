-- How driving ends, from what a pen has written.
use Rattle.std.proofs.Common.{◌≡◌, ℕ, ◌∙◌, List, [], Bool, true, refl, ap, subst, Option, None, Some, Result, Ok, Err}
use Rattle.wf_outside.specs.declared.sinks.SinkFault.{SinkFault}
use Rattle.wf_outside.specs.Sinks.{FitsRoom}
use Rattle.pens.specs.Pens.{PenState, WroteFrom, Wrote, Prints, failed_at}
use Rattle.wf_script_rules.specs.Report.{Report}
use Rattle.wf_script_drive.specs.declared.driving.DriveEnd.{DriveEnd}
use Rattle.wf_script_drive.specs.declared.driving.DriveEnd.TheVariants.{Done, Turns, Undefined, OutFailed}
use Rattle.wf_script_drive.specs.Driving.{EndsAs, Drives, FitsDrive}

-- A lost pen's last answer isn't Ok.
pub stays_lost : (a b : PenState) (r : Result (Unit {0}) SinkFault) (u : Unit {0}) → Wrote a b [] → r ≡ failed_at b.failed b.sent → r ≡ Ok u → a.failed ≡ true → ⊥
stays_lost a b r u wrote answer ok lost =
    let same : b ≡ a = subst (λ (f : Bool). WroteFrom f a b []) lost wrote in
    let failed : b.failed ≡ true = ap (λ (s : PenState). s.failed) same ∙ lost in
    let e : r ≡ failed_at true b.sent = subst (λ (f : Bool). r ≡ failed_at f b.sent) failed answer in
    absurd (cc (e, ok))

room_some : (room : ℕ) (now : Option ℕ) (end : DriveEnd) (report : Report) (lost : Bool) (count : ℕ) (u : Unit {0}) → EndsAs end report.end lost → (lost ≡ true → ⊥) → FitsRoom (Some room) now (Ok u) count → FitsDrive (Some room) now end count
room_some room now Done report lost count u is fine h = λ enough. (refl, (h enough).1)
room_some room now (Turns line) report lost count u is fine h = λ enough. (refl, (h enough).1)
room_some room now (Undefined line) report lost count u is fine h = λ enough. (refl, (h enough).1)
room_some room now OutFailed report lost count u is fine h = absurd (fine is)

pub room_kept : (before now : Option ℕ) (end : DriveEnd) (report : Report) (lost : Bool) (count : ℕ) (u : Unit {0}) → EndsAs end report.end lost → (lost ≡ true → ⊥) → FitsRoom before now (Ok u) count → FitsDrive before now end count
room_kept None now end report lost count u is fine h = tt
room_kept (Some room) now end report lost count u is fine h = room_some room now end report lost count u is fine h

pub room_lost : (before now : Option ℕ) (fault : SinkFault) (count : ℕ) → FitsRoom before now (Err fault) count → FitsDrive before now OutFailed count
room_lost None now fault count h = tt
room_lost (Some room) now fault count h = λ enough. (let failed = (h enough).0 in absurd (cc (failed)))

pub front_of : (before now : Option (List ℕ)) (fault : SinkFault) (report : Report) → Prints before now (Err fault) report.text → Drives before now OutFailed report
front_of before now fault report h = (h.0, h.1, h.2)
