use Rattle.std.proofs.Common.{◌<◌, ◌+◌, length, take, sym, ap, subst, ◌∙◌, true≢false}
use Rattle.std.proofs.lemmas.List.{take_all}
use Rattle.std.proofs.lemmas.List.Elements.{All-push}
use Rattle.nj_graph.specs.declared.FileNo.{FileNo}
use Rattle.nj_graph.specs.Graph.{files_of}
use Rattle.nj_ask.specs.Inside.Reached.{numbers_of, AreFeeding, AreFilesOf}
use Rattle.nj_ask.proofs.MadeLemmas.{among-numbers, feeding-more, feeding-same}
use Rattle.nj_ask.proofs.manifest.feeding_files.Goals as goal
use Rattle.nj_ask.proofs.manifest.feeding_files.Goals.{then-is_made_from+in_ok-push, else-is_made_from}

abbrev first : FileNo
first = record { 0 = 0 }

pub files-preserved : goal.files-preserved
files-preserved c =
    let g = c.args.graph.now in
    let files = c.args.files.now in
    let i = c.files.file-index in
    let below = c.files-test.true in
    elim c.if-is_made_from.branch [
      | then-is_made_from+in_ok-push w ↦
          let new = ap (λ v. v.items) w.feeding-is ∙ w.in_ok-push.ensures.items in
          record {
            feeding = λ opened entries graph tells.
                feeding-more g opened entries files i first below c.files.feeding.items
                (c.files.invariant.feeding opened entries graph tells) _ new
                ((c.is_made_from.ensures opened entries graph
                (tells _ (among-numbers files i first below))).0 w.if-is_made_from.true);
            known = subst (AreFilesOf g) (sym new)
                (All-push (λ (f : FileNo). f.0 < length (files_of g)) c.files.feeding.items _
                c.files.invariant.known (c.requires i first below));
          }
      | else-is_made_from w ↦ record {
        feeding = λ opened entries graph tells.
            subst (λ v. AreFeeding g opened entries (numbers_of (take (i + 1) files)) (numbers_of v.items))
            (sym w.feeding-is)
            (feeding-same g opened entries files i first below c.files.feeding.items
            (c.files.invariant.feeding opened entries graph tells)
            (λ feeds. true≢false (sym ((c.is_made_from.ensures opened entries graph
            (tells _ (among-numbers files i first below))).1 feeds) ∙ w.if-is_made_from.false)));
        known = subst (λ v. AreFilesOf g v.items) (sym w.feeding-is) c.files.invariant.known;
      }
    ]

pub returns : goal.returns
returns c =
    let files = c.args.files.now in
    record {
      feeding = λ opened entries graph tells.
          subst (λ fs. AreFeeding c.args.graph.now opened entries (numbers_of fs)
          (numbers_of c.files.feeding.items))
          (take_all c.files.file-index files c.files-test.false)
          (c.files.invariant.feeding opened entries graph tells);
      known = c.files.invariant.known;
    }
