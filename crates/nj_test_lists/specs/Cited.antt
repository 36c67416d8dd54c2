-- What the contracts of this crate cite: each name comes from the module in its line.
pub use Rattle.serde_json.specs.View.{view, members_view}
pub use Rattle.nj_tests.specs.Tests.{test_model}
pub use Rattle.nj_test_lists.specs.Faults.{IsCTestText, IsCTestFault, IsCTestListFault, fault_text, ctest_key_text, meson_key_text}
pub use Rattle.nj_test_lists.specs.Faults.{target_key_text, IsMesonText, IsMesonFault, IsTargetsText, IsTargetsFault}
pub use Rattle.nj_test_lists.specs.CTest.{IsCTestList, AreCTests, IsCTest, major_version, command_of, is_available, known, properties_of}
pub use Rattle.nj_test_lists.specs.CTest.{property_name, property_of, property_strings, strings_of_all, folder_of, one_folder}
pub use Rattle.nj_test_lists.specs.Inside.Reading.{AreTestsFault, IsTestFault, property_model, AreMesonTestsFault, IsMesonTestFault}
pub use Rattle.nj_test_lists.specs.Inside.Reading.{Refuses, IsPropertyFault, AreTargetsFault, IsWrongId, IsNoJsonFault}
pub use Rattle.nj_test_lists.specs.Values.{string_at, IsJson, joined, strings_at, each, items, strings, items_at, given}
pub use Rattle.nj_test_lists.specs.Laws.{EachValueIsOneTest, FileStringsAreTexts, OneReading, GoodListsAreRead, EachMesonValueIsOneTest}
pub use Rattle.nj_test_lists.specs.Laws.{FilesOfTargetsAreTexts}
pub use Rattle.nj_test_lists.specs.declared.list_fault.ListFault.TheVariants.{OutOfMemory, WrongMesonTest}
pub use Rattle.nj_test_lists.specs.Meson.{AreMesonTests, IsMesonTest, files_of, nonempty, environment, assignments, extra_paths}
pub use Rattle.nj_test_lists.specs.Meson.{built_before, folder_of_test, AreTargets, files_made}
pub use Rattle.std.specs.List.{list_any}
pub use Rattle.nj_tests.specs.Words.{path_in}
pub use Rattle.nj_text.specs.Paths.{is_absolute}
pub use Rattle.serde_json.specs.Find.{as_str}
