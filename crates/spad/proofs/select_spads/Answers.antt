-- `spad::select_spads` meets its contract: each turn walks and writes one byte more.
use Rattle.std.proofs.Common.{◌+◌, ◌≤◌, ◌<◌, refl, ◌∙◌, ap, length, arith}
use Rattle.std.proofs.lemmas.List.{length-set, take_all}
use Rattle.spad.specs.Map.{ones_in}
use Rattle.spad.proofs.Keep.{selected_is, none_more, one_more, ones_more}
use Rattle.spad.proofs.select_spads.Goals as goal

pub loop-i-init : goal.loop-i-init
unfolding ones_in
loop-i-init c =
    let a = c.args in
    let six = c.well_formed.0.1.0.1 in
    (six, selected_is a.map c.first_spad.result a.count a.aperture six c.first_spad.ensures, refl, omega arith)

pub loop-i-preserved : goal.loop-i-preserved
loop-i-preserved c =
    let l = c.loop-i in
    let w = c.mask_byte-w in
    let inner : l.i < length c.args.map = omega arith in
    let room : l.i < length l.selected = omega arith in (
      length-set l.selected l.i w.result.byte ∙ l.invariant.0,
      one_more c.args.map l.selected l.i _ _ _ _ _ _ inner room w.ensures ∙ l.invariant.1,
      ap (λ k. k + w.result.kept) l.invariant.2 ∙ ones_more c.args.map l.selected l.i _ _ _ _ _ _ inner room w.ensures,
      omega (arith, w.ensures.few),
    )

pub returns : goal.returns
returns c =
    let l = c.loop-i in
    let ends : length c.args.map ≤ l.i = omega arith in
    let all : length l.selected ≤ l.i = omega arith in
    rw (l.invariant.2, take_all l.i l.selected all, ← l.invariant.1, none_more c.args.map l.selected l.i l.left.skip l.left.wanted ends all) refl
