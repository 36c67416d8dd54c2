-- Reports, and their texts.
use Rattle.std.proofs.Common.{◌≡◌, ◌++◌, ◌∙◌, ℕ, Bool, true, Option, List, [], ap, append_assoc, codes, subst}
use Rattle.std.proofs.Common.{sym}
use Rattle.std.specs.Fmt.{decimal}
use Rattle.std.specs.List.Sorted.{IsStrictlyIncreasing}
use Rattle.nj_build_log.specs.Logs.{LineModel}
use Rattle.nj_edges.specs.Edges.{EdgePaths}
use Rattle.nj_times.specs.Times.{durations_of}
use Rattle.nj_times.specs.Critical.{AreNeededBy, IsCriticalPath}
use Rattle.nj_times.specs.Reports.{AreShown, IsReport, commands_in, report_text, summary}

-- five texts after another one
joined : (y a b c d e : List ℕ)
    → y ++ (a ++ b ++ c ++ d ++ e) ≡ y ++ a ++ b ++ c ++ d ++ e
joined y a b c d e =
    sym (append_assoc y (a ++ b ++ c ++ d) e)
    ∙ ap (λ (t : List ℕ). t ++ e) (sym (append_assoc y (a ++ b ++ c) d)
    ∙ ap (λ (t : List ℕ). t ++ d) (sym (append_assoc y (a ++ b) c)
    ∙ ap (λ (t : List ℕ). t ++ c) (sym (append_assoc y a b))))

-- the sums in JSON
abbrev pub sums_part : (sum critical : ℕ) → List ℕ
sums_part sum critical =
    codes ",\"sum\":" ++ decimal sum ++ codes ",\"critical_path\":" ++ decimal critical ++ codes "}\n"

pub sums_text : (old : List ℕ) (sum critical : ℕ)
    → old ++ (codes ",\"sum\":" ++ decimal sum) ++ (codes ",\"critical_path\":" ++ decimal critical)
    ++ codes "}\n"
    ≡ old ++ sums_part sum critical
sums_text old sum critical =
    by (codes ",\"sum\":") (decimal sum) (codes ",\"critical_path\":") (decimal critical) (codes "}\n")
  where
    by : (a b c d e : List ℕ) → old ++ (a ++ b) ++ (c ++ d) ++ e ≡ old ++ (a ++ b ++ c ++ d ++ e)
    by a b c d e =
        ap (λ (t : List ℕ). t ++ e) (sym (append_assoc (old ++ (a ++ b)) c d)
        ∙ ap (λ (t : List ℕ). t ++ c ++ d) (sym (append_assoc old a b)))
        ∙ sym (joined old a b c d e)

pub object_text : (start : List ℕ) (commands unknown sum critical : ℕ) → start ≡ []
    → start ++ (codes "{\"commands\":" ++ decimal commands) ++ (codes ",\"unknown\":" ++ decimal unknown)
    ++ sums_part sum critical
    ≡ summary true commands unknown sum critical
object_text start commands unknown sum critical none =
    ap (λ (s : List ℕ). s ++ (codes "{\"commands\":" ++ decimal commands)
    ++ (codes ",\"unknown\":" ++ decimal unknown) ++ sums_part sum critical) none
    ∙ ap (λ (t : List ℕ). t ++ sums_part sum critical)
    (sym (append_assoc (codes "{\"commands\":" ++ decimal commands) (codes ",\"unknown\":")
    (decimal unknown)))
    ∙ joined (codes "{\"commands\":" ++ decimal commands ++ codes ",\"unknown\":" ++ decimal unknown)
    (codes ",\"sum\":") (decimal sum) (codes ",\"critical_path\":") (decimal critical) (codes "}\n")

-- what is written is a report
pub reported : (edges : List EdgePaths) (lines : List LineModel) (files : List (List ℕ)) (top : Option ℕ)
    (is_json : Bool) (durations : List (Option ℕ)) (needed commands path shown text : List ℕ)
    → durations ≡ durations_of lines edges → AreNeededBy edges files needed → IsStrictlyIncreasing needed
    → commands ≡ commands_in edges needed → IsCriticalPath edges files durations path
    → AreShown durations top commands path shown
    → text ≡ report_text edges durations is_json commands path shown
    → IsReport edges lines files top is_json text
reported edges lines files top is_json durations needed commands path shown text are are_needed rises
    commands_are
    critical are_shown text_is = record {
      needed = needed;
      are_needed = are_needed;
      rises = rises;
      path = path;
      critical = subst (λ (ds : List (Option ℕ)). IsCriticalPath edges files ds path) are critical;
      shown = shown;
      are_shown = subst (λ (ds : List (Option ℕ)). AreShown ds top (commands_in edges needed) path shown) are
          (subst (λ (cs : List ℕ). AreShown durations top cs path shown) commands_are are_shown);
      text_is = text_is
          ∙ ap (λ (ds : List (Option ℕ)). report_text edges ds is_json commands path shown) are
          ∙ ap (λ (cs : List ℕ). report_text edges (durations_of lines edges) is_json cs path shown)
          commands_are;
    }
