use Rattle.std.proofs.Common.{◌≡◌, ◌∙◌, ap, subst, ◌∷◌, []}
use Rattle.std.specs.Result.{IfOk}
use Rattle.cue_list.specs.declared.epoch.Epoch.{Epoch}
use Rattle.compiler_tests.specs.Private.Sample.{sample}
use Rattle.compiler_tests.proofs.SampleLaws.{sample_sound}
use Rattle.compiler_tests.proofs.set_bytes.script.Goals as goal

pub script_of-requires : goal.script_of-requires
script_of-requires g c =
    let solid = c.four_pixels-solid.result in
    let through = c.four_pixels-through.result in
    let one = c.four_pixels-solid.ensures.sides in
    let two = c.four_pixels-through.ensures.sides in
    let epoch = subst (λ r. IfOk r (λ e. e ≡ sample)) c.expect.ensures c.sample_epoch.ensures in
    let epochs =
    subst (λ r. IfOk r (λ v. v.items ≡ c.expect.result ∷ [])) c.expect-epochs.ensures c.vec.ensures.items in
    let pictures =
    subst (λ r. IfOk r (λ v. v.items ≡ solid ∷ through ∷ [])) c.expect-pictures.ensures c.vec-2.ensures.items in
    sample_sound solid through c.expect-epochs.result.items c.expect-pictures.result.items
    (record { picture_is = c.four_pixels-solid.ensures.picture; width = one.0; height = one.1; depth = one.2 })
    (record { picture_is = c.four_pixels-through.ensures.picture; width = two.0; height = two.1; depth = two.2 })
    (epochs ∙ ap (λ (e : Epoch). e ∷ []) epoch)
    pictures
