use Rattle.std.proofs.Common.{◌≡◌, ◌≤◌, ◌<◌, ◌^◌, ◌+◌, ◌*◌, ℕ, List, [], ◌∷◌, length, ap, sym, subst, ◌∙◌, arith}
use Rattle.std.specs.Prelude.{slice_range}
use Rattle.byteorder.specs.Endian.{little_bytes}
use Rattle.gptman.specs.Bytes.{part}
use Rattle.gptman.specs.Disk.{overlay}
use Rattle.gptedit_look.specs.Protective.{HasSpan}
use Rattle.gptedit_look.proofs.Changes.{on_ok_both}
use Rattle.gptedit_look.proofs.Lengths.{has_span}
use Rattle.gptedit_look.proofs.mending.set_span.Goals as goal

pub returns-clause-set : goal.returns-clause-set
returns-clause-set g c = λ honest.
    let old = g.D.Disk.state c.args.disk.now in
    let i = c.args.misfit.entry in
    let s = c.args.misfit.start in
    let n = c.args.misfit.length in
    let overlaid : List ℕ → List ℕ = λ b. overlay (overlay (overlay b (451 + 16 * i) (0xFF ∷ 0xFF ∷ 0xFF ∷ []))
    (454 + 16 * i) (little_bytes 4 s)) (458 + 16 * i) (little_bytes 4 n) in
    let starts : s < 256 ^ 4 = omega (arith, c.mended-mended.ensures.in_range.0) in
    let fits : n < 256 ^ 4 = omega (arith, c.mended-mended.ensures.in_range.1) in
    let room : 512 ≤ length old.view = omega (arith, (g.met.D.Disk.sound c.args.disk.now honest).size, c.requires.room) in
    let bytes : c.mended-mended.result ≡ overlaid (part old.view 0 512) = c.mended-mended.ensures.contents ∙ ap overlaid (c.requires.bytes honest) in
    on_ok_both c.write_mbr.result (c.write_mbr.ensures.contents honest) (c.write_mbr.ensures.synced honest) (λ laid synced. record {
      bytes = subst (λ (v : List ℕ). HasSpan i s n old.view v)
          (sym (laid ∙ ap (λ (m : List ℕ). overlay old.view 446 (slice_range m 446 512)) bytes))
          (has_span old.view i s n c.requires.place starts fits room);
      synced = synced;
    })
