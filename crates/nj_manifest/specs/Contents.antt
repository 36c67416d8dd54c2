-- Statements in memory, without their addresses.
use Rattle.std.specs.Prelude.{List, map}
use Rattle.nj_text.specs.declared.word.Word.{Word}
use Rattle.nj_text.specs.Words.{WordModel, word_model}
use Rattle.nj_manifest.specs.declared.statement.Line.{Line}
use Rattle.nj_manifest.specs.declared.statement.Rule.{Rule}
use Rattle.nj_manifest.specs.declared.statement.Pool.{Pool}
use Rattle.nj_manifest.specs.declared.statement.Build.{Build}
use Rattle.nj_manifest.specs.declared.statement.Placed.{Placed}
use Rattle.nj_manifest.specs.declared.statement.Statement.{Statement}
use Rattle.nj_manifest.specs.declared.statement.Statement.TheVariants as statement
use Rattle.nj_manifest.specs.LineSteps.{NameModel}
use Rattle.nj_manifest.specs.Statements.{LineModel, OutputsModel, InputsModel}
use Rattle.nj_manifest.specs.Statements.{StatementModel, BindingModel, RuleModel, PoolModel, BuildModel, DefaultModel, IncludeModel}
use Rattle.nj_manifest.specs.Statements.{SubninjaModel, PlacedModel}

-- a line of a block
abbrev pub line_model : Line → LineModel
line_model l = record { spot = l.spot; name = l.name.now; value = word_model l.value }

-- the lines of a block
abbrev pub lines_model : List Line → List LineModel
lines_model ls = map line_model ls

-- a list of words
abbrev pub words_model : List Word → List WordModel
words_model ws = map word_model ws

-- a `rule` statement
abbrev pub rule_model : Rule → StatementModel
rule_model r = RuleModel (record { spot = r.name_spot; name = r.name.now }) (lines_model r.lines.items)

-- a `pool` statement
abbrev pub pool_model : Pool → StatementModel
pool_model p = PoolModel (record { spot = p.name_spot; name = p.name.now }) (lines_model p.lines.items)

-- ---- build statements

-- the outputs of a `build` statement
abbrev pub outputs_model : Build → OutputsModel
outputs_model b = record { explicit = words_model b.explicit_outs.items; implicit = words_model b.implicit_outs.items }

-- the name of its rule
abbrev pub used_rule : Build → NameModel
used_rule b = record { spot = b.rule_spot; name = b.rule.now }

-- the inputs of a `build` statement, and its validations
abbrev pub inputs_model : Build → InputsModel
inputs_model b =
    record {
      explicit = words_model b.explicit.items;
      implicit = words_model b.implicit.items;
      order_only = words_model b.order_only.items;
      validations = words_model b.validations.items;
    }

-- a `build` statement
abbrev pub build_model : Build → StatementModel
build_model b = BuildModel (outputs_model b) (used_rule b) (inputs_model b) (lines_model b.lines.items)

-- ---- statements

-- a statement
abbrev pub statement_model : Statement → StatementModel
statement_model (statement.Binding name value) = BindingModel name.now (word_model value)
statement_model (statement.Rule r) = rule_model r
statement_model (statement.Pool p) = pool_model p
statement_model (statement.Build b) = build_model b
statement_model (statement.Default words) = DefaultModel (words_model words.items)
statement_model (statement.Include word) = IncludeModel (word_model word)
statement_model (statement.Subninja word) = SubninjaModel (word_model word)

-- a statement and its place
abbrev pub placed_model : Placed Statement → PlacedModel
placed_model p = record { spot = p.spot; item = statement_model p.item }
