use Rattle.std.proofs.Common.{◌≡◌, ℕ, List, ◌++◌, codes, sym, ap₂, append_assoc, ◌∙◌}
use Rattle.std.specs.Str.Lossy.{utf8_lossy}
use Rattle.nj_faults.specs.Versions.{reader_version_text}
use Rattle.nj_faults.proofs.LimitStrings.{too_deep, too_many_openings}
use Rattle.nj_faults.proofs.fault.Cause.text.Goals as goal

newer : (version : List ℕ) → codes "ninja_required_version " ++ version ++ codes " is newer than 1.12"
    ≡ codes "ninja_required_version " ++ version ++ codes " is newer than " ++ reader_version_text
newer version = sym (append_assoc (codes "ninja_required_version " ++ version) (codes " is newer than ")
    reader_version_text)

pub returns-in-VersionTooNew-clause-exact : goal.returns-in-VersionTooNew-clause-exact
returns-in-VersionTooNew-clause-exact c =
    rw (c.in-VersionTooNew.is) (c.naming.ensures.exact ∙ newer c.in-VersionTooNew.version)

pub returns-in-VersionTooNew-clause-shown : goal.returns-in-VersionTooNew-clause-shown
returns-in-VersionTooNew-clause-shown c =
    rw (c.in-VersionTooNew.is) (c.naming.ensures.shown ∙ newer (utf8_lossy c.in-VersionTooNew.version))

pub returns-in-TooDeep-clause-exact : goal.returns-in-TooDeep-clause-exact
returns-in-TooDeep-clause-exact c = rw (c.in-TooDeep.is) (c.fixed-in-TooDeep.ensures.exact ∙ too_deep)

pub returns-in-TooDeep-clause-shown : goal.returns-in-TooDeep-clause-shown
returns-in-TooDeep-clause-shown c = rw (c.in-TooDeep.is) (c.fixed-in-TooDeep.ensures.shown ∙ too_deep)

pub returns-in-TooManyOpenings-clause-exact : goal.returns-in-TooManyOpenings-clause-exact
returns-in-TooManyOpenings-clause-exact c =
    rw (c.in-TooManyOpenings.is) (c.fixed-in-TooManyOpenings.ensures.exact ∙ too_many_openings)

pub returns-in-TooManyOpenings-clause-shown : goal.returns-in-TooManyOpenings-clause-shown
returns-in-TooManyOpenings-clause-shown c =
    rw (c.in-TooManyOpenings.is) (c.fixed-in-TooManyOpenings.ensures.shown ∙ too_many_openings)

-- an output, and the dyndep file that does not mention it
abbrev unmentioned : (shown : List ℕ → List ℕ) (output file : List ℕ) → List ℕ
unmentioned shown output file = codes "'" ++ shown output ++ codes "' not mentioned in its dyndep file '"
    ++ shown file ++ codes "'"

pub returns-in-DyndepNoStatement-clause-exact : goal.returns-in-DyndepNoStatement-clause-exact
returns-in-DyndepNoStatement-clause-exact c =
    rw (c.in-DyndepNoStatement.is) (c.naming_two.ensures.exact
    ∙ ap₂ (unmentioned (λ name. name)) c.as_bytes-path.ensures c.as_bytes-file.ensures)

pub returns-in-DyndepNoStatement-clause-shown : goal.returns-in-DyndepNoStatement-clause-shown
returns-in-DyndepNoStatement-clause-shown c =
    rw (c.in-DyndepNoStatement.is) (c.naming_two.ensures.shown
    ∙ ap₂ (unmentioned utf8_lossy) c.as_bytes-path.ensures c.as_bytes-file.ensures)

pub returns-in-DyndepExtra-clause-exact : goal.returns-in-DyndepExtra-clause-exact
returns-in-DyndepExtra-clause-exact c = rw (c.in-DyndepExtra.is) (c.naming-in-DyndepExtra.ensures.exact)

pub returns-in-DyndepExtra-clause-shown : goal.returns-in-DyndepExtra-clause-shown
returns-in-DyndepExtra-clause-shown c = rw (c.in-DyndepExtra.is) (c.naming-in-DyndepExtra.ensures.shown)

pub returns-in-NoOutEdge-clause-exact : goal.returns-in-NoOutEdge-clause-exact
returns-in-NoOutEdge-clause-exact c = rw (c.in-NoOutEdge.is) (c.naming-in-NoOutEdge.ensures.exact)

pub returns-in-NoOutEdge-clause-shown : goal.returns-in-NoOutEdge-clause-shown
returns-in-NoOutEdge-clause-shown c = rw (c.in-NoOutEdge.is) (c.naming-in-NoOutEdge.ensures.shown)
