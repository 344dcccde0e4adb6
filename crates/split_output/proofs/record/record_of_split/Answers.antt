use Rattle.std.proofs.Common.{◌∙◌, Bor, List, ℕ, map, ap, refl, subst, sym}
use Rattle.std.proofs.lemmas.Result.{IfOk-weaker}
use Rattle.std.proofs.lemmas.Simd.{map-map}
use Rattle.split_export.specs.Export.{bytes_of}
use Rattle.split_output.specs.Left.{left_out}
use Rattle.split_output.specs.Record.{SayLeft, track_of, track_seen}
use Rattle.split_output.proofs.Chosen.{filed_of}
use Rattle.split_output.proofs.record.record_of_split.Goals as goal

pub returns : goal.returns
returns c =
    let origin = c.args.origin.now in
    let split = c.args.split.now in
    IfOk-weaker c.record_text.result _ _ (λ text is. (
      record {
        exports = origin.exports;
        unit = origin.unit;
        zone = split.grid.zone;
        shift = split.grid.shift;
        options = origin.options;
        said = c.deref-3.result;
        left = c.deref-4.result;
        tracks = c.deref-5.result;
        tool = origin.tool;
      },
      is,
      record {
        exports = refl;
        unit = refl;
        zone = refl;
        shift = refl;
        options = refl;
        said = ap (map (λ (line : Bor (List ℕ)). line.now)) c.deref-3.ensures.value ∙ (c.in_ok-said.ensures ∙ ap bytes_of c.deref.ensures.value);
        left = λ fates are. subst (λ lines. SayLeft split fates (map left_out lines)) (sym c.deref-4.ensures.value) (c.in_ok-left.ensures fates are);
        tracks = ap (map track_seen) c.deref-5.ensures.value
            ∙ (c.in_ok-made.ensures
            ∙ (sym (map-map track_of filed_of c.deref-2.result.now)
            ∙ ap (map track_of) (ap (map filed_of) c.deref-2.ensures.value ∙ c.in_ok-tracks.ensures)));
        tool = refl;
      },
    )) c.record_text.ensures
